use Rattle.irc_follow.specs.Lemmas.BehindSources.{other_sources}
use Rattle.irc_follow.proofs.laws.other_sources.Goals as goal

pub returns : goal.returns
returns c = other_sources
