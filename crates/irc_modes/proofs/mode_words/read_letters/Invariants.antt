use Rattle.std.proofs.Common.{◌≤◌, [], true, length, drop, map}
use Rattle.irc_modes.specs.ModeWords.{counted, letters_read}
use Rattle.irc_modes.specs.ModeViews.{all_asked}
use Rattle.irc_modes.proofs.ModeSteps.{Standing}
use Rattle.irc_modes.proofs.mode_words.read_letters.Given as goal

abbrev pub invariant-loop-byte : goal.invariant-loop-byte
invariant-loop-byte l = record {
  so_far : Standing l.plus (drop l.byte-index l.letters)
      (drop l.used (map (λ word. word.now) l.words)) l.limits (all_asked l.items.items)
      (counted [] (letters_read true l.letters (map (λ word. word.now) l.words)));
  within : l.used ≤ length l.words;
}
