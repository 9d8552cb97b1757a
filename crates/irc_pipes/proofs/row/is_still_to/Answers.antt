use Rattle.std.proofs.Common.{◌∙◌, ap, sym}
use Rattle.irc_pipes.specs.Pipes.{LinkPipe, is_still}
use Rattle.irc_pipes.proofs.Rows.{nowhere, there}
use Rattle.irc_pipes.proofs.row.is_still_to.Goals as goal

pub returns-in-Some : goal.returns-in-Some
returns-in-Some c =
    c.is_still.ensures
    ∙ ap (λ (w : LinkPipe). is_still w)
    (sym (there c.args.pipes.now c.args.to c.in-Some.pipe.now (sym c.in-Some.ensures.value)))

pub returns-in-None : goal.returns-in-None
returns-in-None c =
    ap (λ (w : LinkPipe). is_still w)
    (sym (nowhere c.args.pipes.now c.args.to (sym c.in-None.ensures.value)))
