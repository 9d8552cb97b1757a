use Rattle.irc_follow.specs.Lemmas.ServersPassedBy.{passed_by_stays}
use Rattle.irc_follow.proofs.laws.passed_by_stays.Goals as goal

pub returns : goal.returns
returns c = passed_by_stays
