use Rattle.std.proofs.Common.{sym, ◌∙◌}
use Rattle.irc_engine.proofs.EachConnection.{lost_open, lost_closed}
use Rattle.irc_engine.proofs.RunLaws.{on_both}
use Rattle.irc_engine.proofs.connections.Connections.lose.Goals as goal

pub returns-in-Some : goal.returns-in-Some
returns-in-Some g c =
    on_both c.note_loss.result _ _ _ (λ noted len. lost_open _ _ _ _ _ _ c.end.ensures
    (sym c.open_kind-open.ensures ∙ c.in-Some.is) noted len)
    c.note_loss.ensures.noted c.note_loss.ensures.len

pub returns-in-None : goal.returns-in-None
returns-in-None g c =
    lost_closed _ _ _ _ c.end.ensures (sym c.open_kind-open.ensures ∙ c.in-None.is)
