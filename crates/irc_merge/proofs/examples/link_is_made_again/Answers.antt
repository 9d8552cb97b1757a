use Rattle.irc_merge.proofs.ExamplesProved.{link_is_made_again}
use Rattle.irc_merge.proofs.examples.link_is_made_again.Goals as goal

pub returns : goal.returns
returns c = link_is_made_again
