use Rattle.std.proofs.Common.{ap, sym, ◌∙◌}
use Rattle.std.proofs.lemmas.List.{nil_from_length}
use Rattle.irc_batch.specs.Batches.{Batch}
use Rattle.irc_engine.proofs.KnowingLaws.{at_one_due}
use Rattle.irc_engine.proofs.RunLaws.{due_carried, due_quiet, on_ok}
use Rattle.irc_engine.proofs.engine.Core.do_due.Goals as goal

pub returns-then-len-eq0-clause-done : goal.returns-then-len-eq0-clause-done
returns-then-len-eq0-clause-done g c =
    due_quiet _ _ _ _ _ _ c.moment-moment.result _ _ c.args.self.now.connections _ _
    (ap (λ (b : Batch). b.outs) c.clear.ensures) c.in_default.ensures.due
    (nil_from_length _ (sym c.len.ensures ∙ c.if-len-eq0.true))

pub tell_losses-requires : goal.tell_losses-requires
tell_losses-requires g c =
    at_one_due _ _ _ _ _ c.args.self.now.connections c.dispatch.new.self
    (ap (λ (b : Batch). b.outs) c.clear.ensures) c.in_default.ensures.connected
    c.in_ok-dispatch.ensures.carries c.requires

pub returns-clause-done : goal.returns-clause-done
returns-clause-done g c =
    on_ok c.tell_losses.result _ _
    (λ ran. due_carried _ _ _ _ _ _ _ _ _ _ c.args.self.now.connections c.dispatch.new.self _ _ _
    (ap (λ (b : Batch). b.outs) c.clear.ensures)
    (λ nothing. c.if-len-eq0.false (c.len.ensures ∙ nothing)) c.in_default.ensures.due
    c.in_ok-dispatch.ensures.noted c.in_ok-dispatch.ensures.carries ran) c.tell_losses.ensures.ran
