use Rattle.irc_effects.proofs.ExamplesProved.{changes_written}
use Rattle.irc_effects.proofs.examples.changes_written.Goals as goal

pub returns : goal.returns
returns c = changes_written
