use Rattle.irc_burst.proofs.GoingOn.{modes_go_on, topics_go_on, members_go_on}
use Rattle.irc_burst.proofs.laws.line_goes_on_as_it_came.Goals as goal

pub returns-clause-modes : goal.returns-clause-modes
returns-clause-modes c = modes_go_on

pub returns-clause-topics : goal.returns-clause-topics
returns-clause-topics c = topics_go_on

pub returns-clause-members : goal.returns-clause-members
returns-clause-members c = members_go_on
