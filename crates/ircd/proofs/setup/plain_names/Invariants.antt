use Rattle.std.proofs.Common.{◌≡◌, ◌++◌, drop}
use Rattle.ircd.specs.Serving.{plain_names}
use Rattle.ircd.proofs.setup.plain_names.Given as goal

-- the names so far stand before those of the peers that are left
abbrev pub invariant-loop-peer : goal.invariant-loop-peer
invariant-loop-peer l =
    plain_names l.fn.peers ≡ l.names.items ++ plain_names (drop l.peer-index l.peers)
