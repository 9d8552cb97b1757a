use Rattle.irc_effects.specs.Lemmas.LimitsKept.{after_is_within_limits, sent_keeps_limits}
use Rattle.irc_effects.proofs.laws.after_is_within_limits.Goals as goal

pub returns-clause-all : goal.returns-clause-all
returns-clause-all c = after_is_within_limits

pub returns-clause-sent : goal.returns-clause-sent
returns-clause-sent c = sent_keeps_limits
