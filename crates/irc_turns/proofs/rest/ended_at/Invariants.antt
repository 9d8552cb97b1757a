use Rattle.std.proofs.Common.{◌≡◌, ℕ, ◌+◌, ◌-◌, ◌≤◌, ◌<◌, length, take}
use Rattle.irc_line.specs.Lines.{HasTaken}
use Rattle.irc_turns.specs.Fronts.{lines_in}
use Rattle.irc_turns.proofs.rest.ended_at.Given as goal

-- what was taken so far has some of the lines, and fewer had ended before each byte of it
abbrev pub invariant-loop-used : goal.invariant-loop-used
invariant-loop-used l = record {
  within : l.used ≤ length l.bytes;
  taken : HasTaken l.framer (take l.used l.bytes);
  count : lines_in l.bytes l.used + l.left ≡ l.lines;
  before : (place : ℕ) → place < l.used → lines_in l.bytes place < l.lines;
}

abbrev pub decreases-loop-used : goal.decreases-loop-used
decreases-loop-used l = length l.bytes - l.used
