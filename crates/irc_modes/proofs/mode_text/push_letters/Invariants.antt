use Rattle.std.proofs.Common.{◌≡◌, ◌≤◌, ◌++◌, length, drop}
use Rattle.irc_line.specs.Bytes.{cut}
use Rattle.irc_line.specs.Limits.{max_line}
use Rattle.irc_modes.specs.ModeWritten.{letters_text}
use Rattle.irc_modes.specs.Loops.WrittenLetters.{letters_from}
use Rattle.irc_modes.proofs.mode_text.push_letters.Given as goal

abbrev pub invariant-loop-change : goal.invariant-loop-change
invariant-loop-change l = record {
  still_cut : length l.line.items ≤ max_line;
  pushed : cut (l.line.items ++ letters_from l.sign (drop l.change-index l.changes))
      ≡ cut (l.fn.line.items ++ letters_text l.changes);
}
