use Rattle.std.proofs.Common.{refl, sym, ◌∙◌}
use Rattle.irc_engine.specs.Loops.Connections.{ended, stayed}
use Rattle.irc_engine.proofs.MarkLaws.{noted_as}
use Rattle.irc_engine.proofs.RunLaws.{on_ok}
use Rattle.irc_engine.proofs.connections.Connections.end_or_wait.Goals as goal

pub returns-then-is_done : goal.returns-then-is_done
returns-then-is_done g c = ended (sym c.is_done.ensures ∙ c.if-is_done.true) c.end.ensures

pub returns-then-has_some : goal.returns-then-has_some
returns-then-has_some g c =
    on_ok c.note.result _ _
    (λ noted. stayed (sym c.is_done.ensures ∙ c.if-is_done.false) refl refl refl
    (noted_as _ _ _ _ _ (sym c.if-has_some.true ∙ c.has_some.ensures) noted)) c.note.ensures

pub returns : goal.returns
returns g c =
    stayed (sym c.is_done.ensures ∙ c.if-is_done.false) refl refl refl
    (noted_as _ _ _ _ _ (sym c.if-has_some.false ∙ c.has_some.ensures) c.forget.ensures)
