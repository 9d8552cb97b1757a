use Rattle.irc_crossing.proofs.BothSet.{one_thing_is_even, others_pass, settings_agree}
use Rattle.irc_crossing.proofs.laws.both_settings_agree.Goals as goal

pub returns-clause-agree : goal.returns-clause-agree
returns-clause-agree c = settings_agree

pub returns-clause-others : goal.returns-clause-others
returns-clause-others c = others_pass

pub returns-clause-even : goal.returns-clause-even
returns-clause-even c = one_thing_is_even
