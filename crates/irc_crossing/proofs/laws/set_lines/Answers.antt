use Rattle.irc_crossing.proofs.Examples.{begun_is_one, begun_twice_is_one, key_yields}
use Rattle.irc_crossing.proofs.Examples.{operator_is_brought}
use Rattle.irc_crossing.proofs.Examples.{operator_stays}
use Rattle.irc_crossing.proofs.Examples.{others_stay, private_yields, topic_stays, topic_yields}
use Rattle.irc_crossing.proofs.laws.set_lines.Goals as goal

pub returns-clause-topic_yields : goal.returns-clause-topic_yields
returns-clause-topic_yields c = topic_yields

pub returns-clause-topic_stays : goal.returns-clause-topic_stays
returns-clause-topic_stays c = topic_stays

pub returns-clause-key : goal.returns-clause-key
returns-clause-key c = key_yields

pub returns-clause-private : goal.returns-clause-private
returns-clause-private c = private_yields

pub returns-clause-operator : goal.returns-clause-operator
returns-clause-operator c = operator_stays

pub returns-clause-others : goal.returns-clause-others
returns-clause-others c = others_stay

pub returns-clause-twice : goal.returns-clause-twice
returns-clause-twice c = begun_twice_is_one

pub returns-clause-one : goal.returns-clause-one
returns-clause-one c = begun_is_one

pub returns-clause-brought : goal.returns-clause-brought
returns-clause-brought c = operator_is_brought
