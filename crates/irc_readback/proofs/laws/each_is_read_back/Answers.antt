use Rattle.irc_readback.proofs.EachBack.{each_is_read_back}
use Rattle.irc_readback.proofs.laws.each_is_read_back.Goals as goal

pub returns : goal.returns
returns c =
    each_is_read_back
    (record {
      lines = record {
        written = c.written_is_read.ensures;
        alone = c.every_line_is_read.ensures.alone;
        as_line = c.written_is_line.ensures;
        names = c.names_are_line_words.ensures;
        shown = c.sent_is_shown_whole.ensures.fits;
        shorter = c.sent_is_shown_whole.ensures.by_nickname;
      };
      fits = c.told_is_whole.ensures.fits;
      others = c.written_is_read_back.ensures;
      introduced = c.introduced_is_read.ensures;
      changes = c.written_changes_are_read.ensures;
    })
