use Rattle.std.proofs.Common.{◌≡◌, fold, take}
use Rattle.irc_channel_commands.specs.Loops.KeptChanges.{flags_by}
use Rattle.irc_channel_commands.proofs.kept_changes.flags.Given as goal

abbrev pub invariant-loop-change : goal.invariant-loop-change
invariant-loop-change l =
    l.flags ≡ fold (flags_by l.nick) l.initial.flags (take l.change-index l.changes)
