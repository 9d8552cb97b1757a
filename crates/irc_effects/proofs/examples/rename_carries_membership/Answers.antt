use Rattle.irc_effects.proofs.ExamplesProved.{rename_carries_membership}
use Rattle.irc_effects.proofs.examples.rename_carries_membership.Goals as goal

pub returns : goal.returns
returns c = rename_carries_membership
