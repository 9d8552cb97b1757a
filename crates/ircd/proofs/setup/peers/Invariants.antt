use Rattle.std.proofs.Common.{◌≡◌, ◌++◌, map, drop}
use Rattle.irc_stage.specs.View.{known_peer}
use Rattle.ircd.specs.Serving.{peer_set}
use Rattle.ircd.proofs.setup.peers.Given as goal

-- the peers so far stand before what the settings that are left tell
abbrev pub invariant-loop-peer : goal.invariant-loop-peer
invariant-loop-peer l = map peer_set l.fn.settings ≡ map known_peer l.peers.items
    ++ map peer_set (drop l.peer-index l.settings)
