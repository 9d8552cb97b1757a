use Rattle.irc_network.proofs.BytesCome.{bytes_come_as_lines}
use Rattle.irc_network.proofs.laws.bytes_come_as_lines.Goals as goal

pub returns : goal.returns
returns c = bytes_come_as_lines (record {
  pieces = c.pieces_complete_the_same.ensures.pieces;
  lines = c.pieces_complete_the_same.ensures.lines;
})
