use Rattle.irc_network.proofs.NewNetwork.{is_as_new}
use Rattle.irc_network.proofs.laws.new_is_whole.Goals as goal

pub returns : goal.returns
returns c = is_as_new (record {
  pieces = c.pieces_complete_the_same.ensures.pieces;
  lines = c.pieces_complete_the_same.ensures.lines;
})
