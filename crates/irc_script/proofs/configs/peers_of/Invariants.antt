use Rattle.std.proofs.Common.{◌≡◌, map, take}
use Rattle.irc_net.specs.View.{known_peer}
use Rattle.irc_script.specs.Networks.{peers_for}
use Rattle.irc_script.proofs.configs.peers_of.Given as goal

-- the peers among the servers so far
abbrev pub invariant-loop-other : goal.invariant-loop-other
invariant-loop-other l =
    map known_peer l.peers.items ≡ peers_for l.fn.server (take l.other-index l.servers)
