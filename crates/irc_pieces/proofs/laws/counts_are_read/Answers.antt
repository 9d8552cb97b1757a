use Rattle.irc_pieces.proofs.CountsRead.{counts_read}
use Rattle.irc_pieces.proofs.laws.counts_are_read.Goals as goal

pub returns : goal.returns
returns c = counts_read (record {
  numbers = c.written_is_read.ensures;
  digits = c.numbers_are_digits.ensures;
  written = c.written_is_read-2.ensures;
  alone = c.every_line_is_read.ensures.alone;
})
