use Rattle.std.proofs.Common.{rules}
use Rattle.irc_room.proofs.tables.Tables.stored_nick.Goals as goal

pub returns-in-Some : goal.returns-in-Some
returns-in-Some c = search rules
