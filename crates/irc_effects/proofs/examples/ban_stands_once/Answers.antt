use Rattle.irc_effects.proofs.ExamplesProved.{ban_stands_once}
use Rattle.irc_effects.proofs.examples.ban_stands_once.Goals as goal

pub returns : goal.returns
returns c = ban_stands_once
