use Rattle.irc_merge.proofs.ExamplesProved.{greater_topic_is_set}
use Rattle.irc_merge.proofs.examples.greater_topic_is_set.Goals as goal

pub returns : goal.returns
returns c = greater_topic_is_set
