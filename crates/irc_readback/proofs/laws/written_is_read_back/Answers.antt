use Rattle.irc_link_writer.specs.Written.{wire}
use Rattle.irc_readback.specs.Lemmas.CarriedParts.{plain_tellable, told_is_carried}
use Rattle.irc_readback.specs.Lemmas.LinesReadBack.{line_back}
use Rattle.irc_readback.proofs.MeaningsBack.{meant_back}
use Rattle.irc_link_reader.specs.Reader.{reader_of}
use Rattle.irc_readback.proofs.laws.written_is_read_back.Goals as goal

pub returns : goal.returns
returns c room known other others link effect plain is = record {
  is_line = c.written_is_line.ensures (wire room known effect)
      (told_is_carried c.names_are_line_words.ensures room known effect is.room_within
      (plain_tellable room known effect plain is.sendable));
  line = line_back (record {
    written = c.written_is_read.ensures;
    alone = c.every_line_is_read.ensures.alone;
    as_line = c.written_is_line.ensures;
    names = c.names_are_line_words.ensures;
    shown = c.sent_is_shown_whole.ensures.fits;
    shorter = c.sent_is_shown_whole.ensures.by_nickname;
  }) room known effect plain is.room_within is.sendable;
  meaning = meant_back room known (reader_of other others link) effect plain is;
}
