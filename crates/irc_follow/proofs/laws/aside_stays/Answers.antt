use Rattle.irc_follow.specs.Lemmas.AsideLines.{aside_stays}
use Rattle.irc_follow.proofs.laws.aside_stays.Goals as goal

pub returns : goal.returns
returns c = aside_stays
