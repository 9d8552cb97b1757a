use Rattle.std.proofs.Common.{◌≡◌}
use Rattle.irc_sockets.proofs.mio_wire.count_clients.Given as goal

-- how many may be open stays
abbrev pub invariant-loop-number : goal.invariant-loop-number
invariant-loop-number l = l.crowd.most ≡ l.fn.crowd.most
