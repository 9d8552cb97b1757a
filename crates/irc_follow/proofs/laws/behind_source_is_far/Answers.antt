use Rattle.irc_follow.specs.Lemmas.BehindSources.{behind_source_is_far}
use Rattle.irc_follow.proofs.laws.behind_source_is_far.Goals as goal

pub returns : goal.returns
returns c = behind_source_is_far
