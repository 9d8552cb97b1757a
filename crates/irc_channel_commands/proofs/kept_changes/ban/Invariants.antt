use Rattle.std.proofs.Common.{◌≡◌, fold, take}
use Rattle.irc_channel_commands.specs.Loops.KeptChanges.{ban_by}
use Rattle.irc_channel_commands.proofs.kept_changes.ban.Given as goal

abbrev pub invariant-loop-change : goal.invariant-loop-change
invariant-loop-change l = l.ban ≡ fold (ban_by l.mask) l.initial.ban (take l.change-index l.changes)
