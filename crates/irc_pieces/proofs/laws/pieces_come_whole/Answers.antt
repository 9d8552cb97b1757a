use Rattle.irc_pieces.proofs.ComingWhole.{comes_whole}
use Rattle.irc_pieces.proofs.laws.pieces_come_whole.Goals as goal

pub returns : goal.returns
returns c = comes_whole c.counts_are_read.ensures
