use Rattle.std.proofs.Common.{refl, arith}
use Rattle.irc_engine.proofs.RunLaws.{on_ok}
use Rattle.irc_engine.proofs.WriteSteps.{write_done, write_lost}
use Rattle.irc_engine.proofs.connections.Connections.write.Goals as goal

pub returns-in-Ok : goal.returns-in-Ok
returns-in-Ok g c =
    on_ok c.end_or_wait.result _ _ (λ ends_or_waits. write_done _ _ _ _ refl
    (omega (arith, c.write.ensures.len)) _ (λ q. refl) _ c.write.result c.in-Ok.is
    c.write.ensures.at ends_or_waits) c.end_or_wait.ensures

pub returns-in-Err : goal.returns-in-Err
returns-in-Err g c =
    on_ok c.lose.result _ _ (λ loses. write_lost _ _ _ _ refl (omega (arith, c.write.ensures.len)) _
    (λ q. refl) _ c.write.result c.in-Err.is
    c.write.ensures.at loses) c.lose.ensures
