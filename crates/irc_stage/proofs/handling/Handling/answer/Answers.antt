use Rattle.std.proofs.Common.{◌∙◌, ap, subst, List}
use Rattle.irc_batch.specs.Batches.{Sent}
use Rattle.irc_line.specs.PartViews.{words_now}
use Rattle.irc_stage.specs.declared.parts.ServerParts.{ServerParts}
use Rattle.irc_stage.specs.Loops.Asking.{AnswersSpeaker}
use Rattle.irc_stage.specs.Loops.Handling.{answered_to}
use Rattle.irc_stage.specs.Loops.Parts.{served_at}
use Rattle.irc_stage.proofs.handling.Handling.answer.Goals as goal

pub returns : goal.returns
returns c =
    ap (λ (outs : List Sent). served_at c.self.inside.parts.value outs)
    (subst (λ (parts : ServerParts). AnswersSpeaker c.args.speaker c.args.query
    (words_now c.args.params.now) parts c.self.inside.out c.answer.new.out) c.deref.ensures
    c.in_ok-answer.ensures)
    ∙ ap (answered_to c.args.speaker c.args.query (words_now c.args.params.now)) c.self.view_is
