use Rattle.irc_turns.proofs.LinesCounted.{lines_counted, none_unbegun, said_in_pieces}
use Rattle.irc_turns.proofs.allowance.lines_are_counted.Goals as goal

pub returns-clause-counted : goal.returns-clause-counted
returns-clause-counted c = lines_counted

pub returns-clause-pieces : goal.returns-clause-pieces
returns-clause-pieces c = said_in_pieces

pub returns-clause-begun : goal.returns-clause-begun
returns-clause-begun c = none_unbegun
