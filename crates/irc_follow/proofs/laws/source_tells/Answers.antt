use Rattle.irc_follow.specs.Lemmas.SideFlows.{source_tells}
use Rattle.irc_follow.proofs.laws.source_tells.Goals as goal

pub returns : goal.returns
returns c = source_tells
