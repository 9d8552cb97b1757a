use Rattle.irc_follow.specs.Lemmas.ToldServers.{told_are_this_side}
use Rattle.irc_follow.proofs.laws.told_are_this_side.Goals as goal

pub returns : goal.returns
returns c = told_are_this_side
