use Rattle.irc_burst_lines.proofs.ExamplesProved.{one_side_is_told}
use Rattle.irc_burst_lines.proofs.examples.one_side_is_told.Goals as goal

pub returns : goal.returns
returns c = one_side_is_told
