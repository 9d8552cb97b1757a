use Rattle.irc_network.proofs.TurnLines.{turn_as_lines}
use Rattle.irc_network.proofs.laws.turn_as_lines.Goals as goal

pub returns : goal.returns
returns c =
    turn_as_lines (record {
      pieces = c.pieces_complete_the_same.ensures.pieces;
      lines = c.pieces_complete_the_same.ensures.lines;
    })
    c.bytes_come_as_lines.ensures
