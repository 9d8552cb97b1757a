use Rattle.std.proofs.Common.{◌≡◌, ◌≤◌, ◌++◌, length, take}
use Rattle.irc_line.specs.Limits.{max_line}
use Rattle.irc_line.specs.Bytes.{cut}
use Rattle.irc_line.specs.Messages.{middle_text}
use Rattle.irc_line.specs.PartViews.{words_now}
use Rattle.irc_line.proofs.writing.push_words.Given as goal

abbrev pub invariant-loop-word : goal.invariant-loop-word
invariant-loop-word l = record {
  still_cut : length l.line.items ≤ max_line;
  pushed : l.line.items ≡ cut
      (l.fn.line.items ++ middle_text (words_now (take l.word-index l.words)));
}
