use Rattle.irc_effects.proofs.ExamplesProved.{part_written_as_stored}
use Rattle.irc_effects.proofs.examples.part_written_as_stored.Goals as goal

pub returns : goal.returns
returns c = part_written_as_stored
