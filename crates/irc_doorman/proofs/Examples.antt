-- Texts of a doorman, and what becomes of lines, computed.
use Rattle.std.proofs.Common.{refl}
use Rattle.irc_line.specs.Bytes.{cut}
use Rattle.irc_line.specs.Messages.{line_text}
use Rattle.irc_line.specs.Reading.{read_of}
use Rattle.irc_numerics.specs.Replies.{numbered, reply_number, table, words}
use Rattle.irc_doorman.specs.Examples.{LinesAreJudged, TextsAreSo, WordsAreOne}

pub texts_are_so : TextsAreSo
unfolding line_text cut
texts_are_so = record { lacking_is = refl; bad_is = refl; closing_is = refl; ping_is = refl }

pub lines_are_judged : LinesAreJudged
unfolding read_of
lines_are_judged = record {
  right = (refl, refl);
  in_small = (refl, refl);
  front = (refl, refl);
  longer = (refl, refl);
  empty = (refl, refl);
  lacks = (refl, refl);
  later_wrong = (refl, refl);
  later_lacks = (refl, refl);
  nick = (refl, refl);
  user = (refl, refl);
  by_another = (refl, refl);
  nick_behind = (refl, refl);
  others = (refl, refl);
  no_line = (refl, refl);
  free = (refl, refl);
}

pub words_are_one : WordsAreOne
unfolding numbered reply_number words table line_text cut
words_are_one server = refl
