use Rattle.irc_follow.specs.Lemmas.BehindLinks.{behind_is_that_side}
use Rattle.irc_follow.proofs.laws.behind_is_that_side.Goals as goal

pub returns : goal.returns
returns c = behind_is_that_side
