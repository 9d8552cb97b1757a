use Rattle.std.proofs.Common.{◌∙◌, ap, is_some, subst, sym}
use Rattle.std.specs.BTreeMap.{BTreeMap}
use Rattle.std.specs.FinMap.{insert}
use Rattle.irc_stage.specs.Loops.Numbered.{numbered}
use Rattle.irc_pipes.specs.Pipes.{IsLean, LinkPipe, new_pipe, put_in, pipe_in, written}
use Rattle.irc_pipes.specs.Loops.Rows.{PipeRow}
use Rattle.irc_pipes.proofs.LeanRows.{lean_written, put_moving, written_moves}
use Rattle.irc_pipes.proofs.Rows.{found, nowhere, on_ok, put, there}
use Rattle.irc_pipes.proofs.row.PipeRow.write.Goals as goal

pub invariant_of-self : goal.invariant_of-self
invariant_of-self c =
    subst IsLean
    (sym (put c.self.inside.pipes
    (c.get_mut.follows.lender c.write.new.self) c.args.to c.write.new.self
    ((c.get_mut.follows.holds c.write.new.self).3 (ap is_some (sym c.in-Some.ensures.value)))))
    (lean_written (numbered c.self.inside.pipes) c.args.to c.args.line.now c.in-Some.pipe.now
    c.write.new.self c.write.result c.self.invariant
    (found c.self.inside.pipes c.args.to c.in-Some.pipe.now (sym c.in-Some.ensures.value))
    c.write.ensures.ok c.write.ensures.refused)

pub returns-in-Some : goal.returns-in-Some
returns-in-Some c =
    on_ok c.write.result c.write.ensures.ok (λ done.
    put c.self.inside.pipes (c.get_mut.follows.lender c.write.new.self) c.args.to c.write.new.self
    ((c.get_mut.follows.holds c.write.new.self).3 (ap is_some (sym c.in-Some.ensures.value)))
    ∙ ap (insert (numbered c.self.inside.pipes) c.args.to)
    (done ∙ ap (written c.args.line.now)
    (sym (there c.self.inside.pipes c.args.to c.in-Some.pipe.now (sym c.in-Some.ensures.value))))
    ∙ ap (λ (row : PipeRow). insert row c.args.to (written c.args.line.now (pipe_in c.args.to row)))
    c.self.view_is
    ∙ sym (put_moving c.args.self.now c.args.to _
    (written_moves c.args.line.now (pipe_in c.args.to c.args.self.now))))

pub returns-in-None : goal.returns-in-None
returns-in-None c =
    on_ok c.write_first.result c.write_first.ensures (λ done.
    done
    ∙ ap (λ (pipes : BTreeMap _ _). put_in c.args.to (written c.args.line.now new_pipe)
    (numbered pipes)) c.get_mut.follows.holds-at-none
    ∙ ap (λ (pipe : LinkPipe). put_in c.args.to (written c.args.line.now pipe)
    (numbered c.self.inside.pipes))
    (sym (nowhere c.self.inside.pipes c.args.to (sym c.in-None.ensures.value)))
    ∙ ap (λ (row : PipeRow). put_in c.args.to (written c.args.line.now (pipe_in c.args.to row)) row)
    c.self.view_is)
