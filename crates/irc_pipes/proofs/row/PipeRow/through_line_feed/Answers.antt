use Rattle.std.proofs.Common.{◌∙◌, ap, sym}
use Rattle.irc_pipes.specs.Pipes.{LinkPipe, through_line_feed, pipe_in}
use Rattle.irc_pipes.specs.Loops.Rows.{PipeRow}
use Rattle.irc_pipes.proofs.Rows.{nowhere, there}
use Rattle.irc_pipes.proofs.row.PipeRow.through_line_feed.Goals as goal

pub returns-in-Some : goal.returns-in-Some
returns-in-Some c =
    c.through_line_feed.ensures
    ∙ ap (λ (w : LinkPipe). through_line_feed w.bytes)
    (sym (there c.self.inside.pipes c.args.to c.in-Some.pipe.now (sym c.in-Some.ensures.value)))
    ∙ ap (λ (row : PipeRow). through_line_feed (pipe_in c.args.to row).bytes) c.self.view_is

pub returns-in-None : goal.returns-in-None
returns-in-None c =
    ap (λ (w : LinkPipe). through_line_feed w.bytes)
    (sym (nowhere c.self.inside.pipes c.args.to (sym c.in-None.ensures.value)))
    ∙ ap (λ (row : PipeRow). through_line_feed (pipe_in c.args.to row).bytes) c.self.view_is
