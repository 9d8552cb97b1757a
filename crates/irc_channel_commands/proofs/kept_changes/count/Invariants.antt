use Rattle.std.proofs.Common.{◌≡◌, ◌≤◌, ◌+◌, fold, take}
use Rattle.irc_channel_commands.specs.Loops.KeptChanges.{count_by}
use Rattle.irc_channel_commands.proofs.kept_changes.count.Given as goal

abbrev pub invariant-loop-change : goal.invariant-loop-change
invariant-loop-change l = record {
  counted : l.count ≡ fold count_by l.initial.count (take l.change-index l.changes);
  bounded : l.count ≤ l.initial.count + l.change-index;
}
