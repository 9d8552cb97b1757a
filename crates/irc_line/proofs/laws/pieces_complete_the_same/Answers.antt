use Rattle.irc_line.proofs.Completed.{lines_are_completed, pieces_complete_the_same}
use Rattle.irc_line.proofs.laws.pieces_complete_the_same.Goals as goal

pub returns-clause-pieces : goal.returns-clause-pieces
returns-clause-pieces c = pieces_complete_the_same

pub returns-clause-lines : goal.returns-clause-lines
returns-clause-lines c = lines_are_completed
