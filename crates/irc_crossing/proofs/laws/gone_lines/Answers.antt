use Rattle.irc_crossing.proofs.Examples.{kick_is_set, mode_is_set, own_goes_with_it, topic_is_set}
use Rattle.irc_crossing.proofs.laws.gone_lines.Goals as goal

pub returns-clause-mode : goal.returns-clause-mode
returns-clause-mode c = mode_is_set

pub returns-clause-topic : goal.returns-clause-topic
returns-clause-topic c = topic_is_set

pub returns-clause-kick : goal.returns-clause-kick
returns-clause-kick c = kick_is_set

pub returns-clause-own : goal.returns-clause-own
returns-clause-own c = own_goes_with_it
