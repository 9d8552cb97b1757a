use Rattle.std.proofs.Common.{rules}
use Rattle.irc_endings.proofs.fault.Stop.status.Goals as goal

pub returns-in-Usage : goal.returns-in-Usage
returns-in-Usage c = search rules
