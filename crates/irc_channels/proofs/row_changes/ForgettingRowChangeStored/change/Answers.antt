use Rattle.std.proofs.Common.{rules}
use Rattle.irc_channels.proofs.row_changes.ForgettingRowChangeStored.change.Goals as goal

pub returns : goal.returns
returns c = search rules
