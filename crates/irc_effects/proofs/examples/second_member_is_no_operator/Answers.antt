use Rattle.irc_effects.proofs.ExamplesProved.{second_member_is_no_operator}
use Rattle.irc_effects.proofs.examples.second_member_is_no_operator.Goals as goal

pub returns : goal.returns
returns c = second_member_is_no_operator
