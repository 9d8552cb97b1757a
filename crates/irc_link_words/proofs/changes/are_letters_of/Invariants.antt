use Rattle.std.proofs.Common.{◌≡◌, ◌≤◌, drop, length}
use Rattle.std.specs.Str.{bytes_eq}
use Rattle.irc_modes.specs.ModeWritten.{letters_text}
use Rattle.irc_modes.specs.Loops.WrittenLetters.{letters_from}
use Rattle.irc_link_words.proofs.changes.are_letters_of.Given as goal

abbrev pub invariant-loop-change : goal.invariant-loop-change
invariant-loop-change l = record {
  within : l.used ≤ length l.word;
  rest : bytes_eq (letters_from l.sign (drop l.change-index l.changes)) (drop l.used l.word)
      ≡ bytes_eq (letters_text l.changes) l.word;
}
