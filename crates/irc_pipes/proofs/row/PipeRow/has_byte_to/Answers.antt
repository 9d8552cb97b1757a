use Rattle.std.proofs.Common.{◌∙◌, ap, sym}
use Rattle.irc_pipes.specs.Pipes.{LinkPipe, has_byte, pipe_in}
use Rattle.irc_pipes.specs.Loops.Rows.{PipeRow}
use Rattle.irc_pipes.proofs.Rows.{nowhere, there}
use Rattle.irc_pipes.proofs.row.PipeRow.has_byte_to.Goals as goal

pub returns-in-Some : goal.returns-in-Some
returns-in-Some c =
    c.has_byte.ensures
    ∙ ap (λ (w : LinkPipe). has_byte w)
    (sym (there c.self.inside.pipes c.args.to c.in-Some.pipe.now (sym c.in-Some.ensures.value)))
    ∙ ap (λ (row : PipeRow). has_byte (pipe_in c.args.to row)) c.self.view_is

pub returns-in-None : goal.returns-in-None
returns-in-None c =
    ap (λ (w : LinkPipe). has_byte w)
    (sym (nowhere c.self.inside.pipes c.args.to (sym c.in-None.ensures.value)))
    ∙ ap (λ (row : PipeRow). has_byte (pipe_in c.args.to row)) c.self.view_is
