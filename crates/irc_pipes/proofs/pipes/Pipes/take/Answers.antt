use Rattle.std.proofs.Common.{◌≡◌, ◌∙◌, ◌++◌, ℕ, IfOk, OnOk, ap, length, min, subst, sym}
use Rattle.std.proofs.lemmas.Option.{slice_get_past}
use Rattle.irc_line.specs.Framed.{bytes_of}
use Rattle.irc_pipes.specs.Pipes.{LinkPipe, Pipes, advanced, lines_by, pipe_at, with_pipe}
use Rattle.irc_pipes.proofs.Places.{changed_in, found_at, pipe_by, pipe_nowhere}
use Rattle.irc_pipes.proofs.Rows.{no_lines, on_ok}
use Rattle.irc_pipes.proofs.pipes.Pipes.take.Goals as goal

pub returns-in_default-clause-lines : goal.returns-in_default-clause-lines
returns-in_default-clause-lines c =
    no_lines c.args.count (pipe_at c.args.self.now c.args.from c.args.to)
    (ap (λ (pipes : Pipes). pipe_at pipes c.args.from c.args.to) (sym c.self.view_is)
    ∙ ap (λ (from : ℕ). pipe_at c.self.inside.rows.items from c.args.to) (sym c.index.ensures)
    ∙ pipe_nowhere c.self.inside.rows.items c.index.result c.args.to
    (slice_get_past c.self.inside.rows.items c.index.result c.in_default.ensures.item.3))
    (bytes_of c.args.lines.now.items)

pub returns-clause-taken : goal.returns-clause-taken
returns-clause-taken c =
    subst (λ (w : LinkPipe). IfOk c.take-taken.result
    (λ taken. taken ≡ min c.args.count (length w.bytes)))
    (pipe_by c.self.inside.rows.items c.args.from c.args.to c.index.result c.link.result
    c.in-Some.row.now c.index.ensures c.link.ensures
    (found_at c.self.inside.rows.items c.index.result c.in-Some.row.now c.in-Some.ensures.item.3.0
    c.in-Some.ensures.item.1)
    ∙ ap (λ (pipes : Pipes). pipe_at pipes c.args.from c.args.to) c.self.view_is)
    c.take-taken.ensures.taken

pub returns-clause-lines : goal.returns-clause-lines
returns-clause-lines c =
    subst (λ (w : LinkPipe). OnOk c.take-taken.result (bytes_of c.take-taken.new.lines.items
    ≡ bytes_of c.args.lines.now.items ++ lines_by c.args.count w))
    (pipe_by c.self.inside.rows.items c.args.from c.args.to c.index.result c.link.result
    c.in-Some.row.now c.index.ensures c.link.ensures
    (found_at c.self.inside.rows.items c.index.result c.in-Some.row.now c.in-Some.ensures.item.3.0
    c.in-Some.ensures.item.1)
    ∙ ap (λ (pipes : Pipes). pipe_at pipes c.args.from c.args.to) c.self.view_is)
    c.take-taken.ensures.lines

pub returns-clause-pipes : goal.returns-clause-pipes
returns-clause-pipes c =
    on_ok c.take-taken.result c.take-taken.ensures.row (λ done.
    changed_in c.self.inside.rows.items c.index.result c.link.result
    (advanced c.args.count) c.in-Some.row.now c.take-taken.new.self
    (found_at c.self.inside.rows.items c.index.result c.in-Some.row.now c.in-Some.ensures.item.3.0
    c.in-Some.ensures.item.1) done
    ∙ (λ i. with_pipe (c.index.ensures i) (c.link.ensures i) (advanced c.args.count
    (pipe_at c.self.inside.rows.items (c.index.ensures i) (c.link.ensures i)))
    c.self.inside.rows.items)
    ∙ ap (λ (pipes : Pipes). with_pipe c.args.from c.args.to
    (advanced c.args.count (pipe_at pipes c.args.from c.args.to)) pipes) c.self.view_is)
