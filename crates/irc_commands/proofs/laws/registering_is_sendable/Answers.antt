use Rattle.irc_commands.proofs.PendingWithin.{registering_is_sendable}
use Rattle.irc_commands.proofs.laws.registering_is_sendable.Goals as goal

pub returns : goal.returns
returns c = registering_is_sendable
