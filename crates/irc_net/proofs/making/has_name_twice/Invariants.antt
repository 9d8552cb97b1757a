use Rattle.std.proofs.Common.{◌≡◌, length}
use Rattle.irc_net.specs.Making.{has_name_twice}
use Rattle.irc_net.proofs.making.has_name_twice.Given as goal

-- two of those behind have one name where two of all do
abbrev pub invariant-loop-config : goal.invariant-loop-config
invariant-loop-config l = has_name_twice l.rest ≡ has_name_twice l.configs

abbrev pub decreases-loop-config : goal.decreases-loop-config
decreases-loop-config l = length l.rest
