use Rattle.std.proofs.Common.{◌≡◌, ◌≤◌, ◌++◌, ◌-◌, drop, length}
use Rattle.irc_names.specs.Fold.{key}
use Rattle.irc_stage.specs.Loops.Merging.{behind, below, entries_now}
use Rattle.irc_stage.proofs.merging.push_below.Given as goal

-- those from here on that stand below, with what is there, are all that do; those behind are so too
abbrev pub invariant-loop-place : goal.invariant-loop-place
invariant-loop-place l = record {
  below : entries_now l.all.items ++ below (key l.row.name.items)
      (entries_now (drop l.place l.found))
      ≡ entries_now l.initial.all.items
      ++ below (key l.row.name.items) (entries_now (drop l.start l.found));
  behind : behind (key l.row.name.items) (entries_now (drop l.place l.found))
      ≡ behind (key l.row.name.items) (entries_now (drop l.start l.found));
  within : l.place ≤ length l.found;
}

abbrev pub decreases-loop-place : goal.decreases-loop-place
decreases-loop-place l = length l.found - l.place
