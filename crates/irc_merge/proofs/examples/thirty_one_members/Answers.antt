use Rattle.irc_merge.proofs.ExamplesProved.{thirty_one_members}
use Rattle.irc_merge.proofs.examples.thirty_one_members.Goals as goal

pub returns : goal.returns
returns c = thirty_one_members
