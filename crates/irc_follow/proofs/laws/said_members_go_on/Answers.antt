use Rattle.irc_follow.proofs.SaidServerOn.{said_members_go_on}
use Rattle.irc_follow.proofs.laws.said_members_go_on.Goals as goal

pub returns : goal.returns
returns c = said_members_go_on (record {
  written = c.written_is_read.ensures;
  alone = c.every_line_is_read.ensures.alone;
  as_line = c.written_is_line.ensures;
  names = c.names_are_line_words.ensures;
})
