use Rattle.std.proofs.Common.{[], ◌∷◌, sym, subst}
use Rattle.irc_batch.specs.Batches.{sent_of}
use Rattle.irc_journal.specs.Signs.{sign_of, EntersAll}
use Rattle.irc_engine.specs.Loops.Connections.{Carries}
use Rattle.irc_engine.proofs.ConnectionSteps.{of_link, on_link}
use Rattle.irc_engine.proofs.NotingLaws.{enters_one}
use Rattle.irc_engine.proofs.RunLaws.{on_ok}
use Rattle.irc_engine.proofs.connections.Connections.dispatch_one.Goals as goal

pub returns-in-LinkLine-clause-carries : goal.returns-in-LinkLine-clause-carries
returns-in-LinkLine-clause-carries g c =
    on_ok c.send-in-LinkLine.result _ _
    (λ carries. subst (λ o. Carries g.W.Wire.is_after [] c.args.self.now
    (sent_of o ∷ []) c.send-in-LinkLine.new.self) (sym c.in-LinkLine.is)
    (on_link _ _ _ _ _ carries)) c.send-in-LinkLine.ensures.carries

pub returns-in-LinkClose-clause-carries : goal.returns-in-LinkClose-clause-carries
returns-in-LinkClose-clause-carries g c =
    on_ok c.close.result _ _
    (λ closed. subst (λ o. Carries g.W.Wire.is_after [] c.args.self.now
    (sent_of o ∷ []) c.close_when_written-in-LinkClose.new.self) (sym c.in-LinkClose.is)
    (of_link _ _ _ _ _ c.close_when_written-in-LinkClose.ensures.carries))
    c.close.ensures

pub returns-in-LinkClose-clause-noted : goal.returns-in-LinkClose-clause-noted
returns-in-LinkClose-clause-noted g c =
    on_ok c.close.result _ _
    (λ closed. subst (λ o. EntersAll (sign_of (sent_of o)) c.args.journal.now c.close.new.self)
    (sym c.in-LinkClose.is) (enters_one _ _ _ _ closed))
    c.close.ensures
