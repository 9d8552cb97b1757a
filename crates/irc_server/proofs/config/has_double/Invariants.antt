use Rattle.std.proofs.Common.{◌≡◌, length}
use Rattle.irc_server.specs.Configuring.{has_double}
use Rattle.irc_server.proofs.config.has_double.Given as goal

-- two of those behind have one name where two of all do
abbrev pub invariant-loop-peer : goal.invariant-loop-peer
invariant-loop-peer l = has_double l.rest ≡ has_double l.peers

abbrev pub decreases-loop-peer : goal.decreases-loop-peer
decreases-loop-peer l = length l.rest
