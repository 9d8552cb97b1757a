use Rattle.std.proofs.Common.{refl}
use Rattle.irc_engine.specs.Loops.Tables.{in_connection}
use Rattle.irc_engine.proofs.connection_table.close_when_written.Goals as goal

pub returns-in-Some : goal.returns-in-Some
returns-in-Some c = in_connection _ _ c.in-Some.is refl refl
