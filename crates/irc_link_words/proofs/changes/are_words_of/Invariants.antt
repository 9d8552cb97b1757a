use Rattle.std.proofs.Common.{◌≡◌, ◌≤◌, drop, length}
use Rattle.irc_line.specs.PartViews.{words_now}
use Rattle.irc_link_words.proofs.WordsTaken.{fits_words}
use Rattle.irc_link_words.proofs.changes.are_words_of.Given as goal

abbrev pub invariant-loop-change : goal.invariant-loop-change
invariant-loop-change l = record {
  within : l.used ≤ length l.words;
  rest : fits_words (drop l.change-index l.changes) (words_now (drop l.used l.words))
      ≡ fits_words l.changes (words_now l.words);
}
