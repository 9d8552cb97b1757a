use Rattle.std.proofs.Common.{◌≡◌, take}
use Rattle.irc_channels.specs.Loops.ManyChanges.{members_after}
use Rattle.irc_channels.proofs.member_changing.change_members.Given as goal

abbrev pub invariant-loop-change : goal.invariant-loop-change
invariant-loop-change l = l.members ≡ members_after (take l.change-index l.changes) l.fn.members
