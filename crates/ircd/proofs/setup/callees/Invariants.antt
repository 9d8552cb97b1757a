use Rattle.std.proofs.Common.{length}
use Rattle.ircd.proofs.SettingUp.{Left}
use Rattle.ircd.proofs.setup.callees.Given as goal

-- the calls of those that are left, behind the calls so far, are those of all
abbrev pub invariant-loop-peer : goal.invariant-loop-peer
invariant-loop-peer l = Left l.rest l.peers l.callees.items

abbrev pub decreases-loop-peer : goal.decreases-loop-peer
decreases-loop-peer l = length l.rest
