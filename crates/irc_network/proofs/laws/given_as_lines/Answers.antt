use Rattle.irc_network.proofs.GivenLines.{given_as_lines}
use Rattle.irc_network.specs.Lemmas.NewFramer.{new_is_real}
use Rattle.irc_network.proofs.laws.given_as_lines.Goals as goal

pub returns : goal.returns
returns c =
    given_as_lines (record {
      pieces = c.pieces_complete_the_same.ensures.pieces;
      lines = c.pieces_complete_the_same.ensures.lines;
    }) new_is_real
