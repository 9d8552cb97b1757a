use Rattle.std.proofs.Common.{◌≡◌, ◌∙◌, ◌++◌, IfOk, OnOk, ap, is_some, length, min, subst, sym}
use Rattle.std.specs.BTreeMap.{BTreeMap}
use Rattle.irc_line.specs.Framed.{bytes_of}
use Rattle.irc_stage.specs.Loops.Numbered.{numbered}
use Rattle.irc_pipes.specs.Pipes.{IsLean, LinkPipe, advanced, lines_by, put_in, pipe_in}
use Rattle.irc_pipes.specs.Loops.Rows.{PipeRow}
use Rattle.irc_pipes.proofs.LeanRows.{lean_put, put_nowhere, put_twice}
use Rattle.irc_pipes.proofs.Rows.{missing, no_lines, none_taken, nowhere, on_ok, put, there}
use Rattle.irc_pipes.proofs.row.PipeRow.take.Goals as goal

pub returns-in_default-clause-taken : goal.returns-in_default-clause-taken
returns-in_default-clause-taken c =
    none_taken c.args.count (pipe_in c.args.to c.args.self.now)
    (ap (pipe_in c.args.to) (sym c.self.view_is)
    ∙ nowhere c.self.inside.pipes c.args.to (sym c.in_default.ensures.value))

pub returns-in_default-clause-lines : goal.returns-in_default-clause-lines
returns-in_default-clause-lines c =
    no_lines c.args.count (pipe_in c.args.to c.args.self.now)
    (ap (pipe_in c.args.to) (sym c.self.view_is)
    ∙ nowhere c.self.inside.pipes c.args.to (sym c.in_default.ensures.value))
    (bytes_of c.args.lines.now.items)

pub returns-in_default-clause-row : goal.returns-in_default-clause-row
returns-in_default-clause-row c =
    ap (λ (pipes : BTreeMap _ _). numbered pipes) c.get_mut.follows.holds-at-none
    ∙ sym (put_nowhere (numbered c.self.inside.pipes) c.args.count c.args.to
    (missing c.self.inside.pipes c.args.to (sym c.in_default.ensures.value)))
    ∙ ap (λ (row : PipeRow). put_in c.args.to (advanced c.args.count (pipe_in c.args.to row)) row)
    c.self.view_is

pub invariant_of-self-2 : goal.invariant_of-self-2
invariant_of-self-2 c =
    subst IsLean
    (sym (put_twice (numbered c.self.inside.pipes) _ _ c.args.to c.take-taken.new.self
    (put c.self.inside.pipes
    (c.get_mut.follows.lender c.take-taken.new.self) c.args.to c.take-taken.new.self
    ((c.get_mut.follows.holds c.take-taken.new.self).3 (ap is_some (sym c.in-Some.ensures.value))))
    c.without_still.ensures))
    (lean_put (numbered c.self.inside.pipes) c.args.to c.take-taken.new.self c.self.invariant)

pub returns-clause-taken : goal.returns-clause-taken
returns-clause-taken c =
    subst (λ (w : LinkPipe). IfOk c.take-taken.result
    (λ taken. taken ≡ min c.args.count (length w.bytes)))
    (sym (there c.self.inside.pipes c.args.to c.in-Some.pipe.now (sym c.in-Some.ensures.value))
    ∙ ap (pipe_in c.args.to) c.self.view_is)
    c.take-taken.ensures.taken

pub returns-clause-lines : goal.returns-clause-lines
returns-clause-lines c =
    subst (λ (w : LinkPipe). OnOk c.take-taken.result (bytes_of c.take-taken.new.lines.items
    ≡ bytes_of c.args.lines.now.items ++ lines_by c.args.count w))
    (sym (there c.self.inside.pipes c.args.to c.in-Some.pipe.now (sym c.in-Some.ensures.value))
    ∙ ap (pipe_in c.args.to) c.self.view_is)
    c.take-taken.ensures.lines

pub returns-clause-row : goal.returns-clause-row
returns-clause-row c =
    on_ok c.take-taken.result c.take-taken.ensures.pipe (λ done.
    put_twice (numbered c.self.inside.pipes) _ _ c.args.to c.take-taken.new.self
    (put c.self.inside.pipes
    (c.get_mut.follows.lender c.take-taken.new.self) c.args.to c.take-taken.new.self
    ((c.get_mut.follows.holds c.take-taken.new.self).3 (ap is_some (sym c.in-Some.ensures.value))))
    c.without_still.ensures
    ∙ ap (λ (w : LinkPipe). put_in c.args.to w (numbered c.self.inside.pipes))
    (done ∙ ap (advanced c.args.count) (sym
    (there c.self.inside.pipes c.args.to c.in-Some.pipe.now (sym c.in-Some.ensures.value))))
    ∙ ap (λ (row : PipeRow). put_in c.args.to (advanced c.args.count (pipe_in c.args.to row)) row)
    c.self.view_is)
