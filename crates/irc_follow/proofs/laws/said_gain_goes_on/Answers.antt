use Rattle.irc_follow.specs.Lemmas.SaidGainToldOn.{said_gain_goes_on}
use Rattle.irc_follow.proofs.laws.said_gain_goes_on.Goals as goal

pub returns : goal.returns
returns c = said_gain_goes_on (record {
  written = c.written_is_read.ensures;
  alone = c.every_line_is_read.ensures.alone;
  as_line = c.written_is_line.ensures;
  names = c.names_are_line_words.ensures;
})
