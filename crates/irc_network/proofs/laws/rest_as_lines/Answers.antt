use Rattle.irc_network.proofs.Resting.{no_byte_rests, rest_as_lines}
use Rattle.irc_network.proofs.laws.rest_as_lines.Goals as goal

pub returns-clause-lines : goal.returns-clause-lines
returns-clause-lines c =
    rest_as_lines (record {
      pieces = c.pieces_complete_the_same.ensures.pieces;
      lines = c.pieces_complete_the_same.ensures.lines;
    })

pub returns-clause-bytes : goal.returns-clause-bytes
returns-clause-bytes c =
    no_byte_rests (record {
      pieces = c.pieces_complete_the_same.ensures.pieces;
      lines = c.pieces_complete_the_same.ensures.lines;
    })
