use Rattle.std.proofs.Common.{refl}
use Rattle.irc_engine.specs.Loops.Tables.{in_connection}
use Rattle.irc_engine.proofs.connection_table.write.Goals as goal

pub returns-in-Some : goal.returns-in-Some
returns-in-Some g c =
    in_connection _ _ c.in-Some.is refl (record { writes_some = c.write_some.ensures; same = refl })
