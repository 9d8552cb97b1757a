use Rattle.std.proofs.Common.{refl}
use Rattle.std.proofs.lemmas.Result.{IfOk-weaker}
use Rattle.irc_engine.specs.Loops.Tables.{in_connection}
use Rattle.irc_engine.proofs.connection_table.push.Goals as goal

pub returns-in-Some : goal.returns-in-Some
returns-in-Some c =
    IfOk-weaker c.push.result _ _ (λ pushed so. in_connection _ _ c.in-Some.is refl so)
    c.push.ensures
