use Rattle.std.proofs.Common.{◌∙◌, ap, subst, sym}
use Rattle.std.specs.FinMap.{insert}
use Rattle.irc_stage.specs.Loops.Numbered.{numbered}
use Rattle.irc_pipes.specs.Pipes.{IsLean, is_still, new_pipe, written}
use Rattle.irc_pipes.specs.Loops.Rows.{PipeRow}
use Rattle.irc_pipes.proofs.LeanRows.{lean_with, put_moving, written_moves}
use Rattle.irc_pipes.proofs.Rows.{put}
use Rattle.irc_pipes.proofs.row.PipeRow.write_first.Goals as goal

pub invariant_of-self : goal.invariant_of-self
invariant_of-self c =
    subst IsLean (sym (put c.self.inside.pipes c.insert.new.self c.args.to c.write.new.self
    c.in-Ok.ensures.updates))
    (lean_with (numbered c.self.inside.pipes) c.args.to c.write.new.self
    (ap is_still c.in_ok-write.ensures.ok
    ∙ written_moves c.args.line.now c.new-pipe.result) c.self.invariant)

pub returns-in-Ok : goal.returns-in-Ok
returns-in-Ok c =
    put c.self.inside.pipes c.insert.new.self c.args.to c.write.new.self c.in-Ok.ensures.updates
    ∙ ap (λ (row : PipeRow). insert row c.args.to c.write.new.self) c.self.view_is
    ∙ ap (insert c.args.self.now c.args.to) (c.in_ok-write.ensures.ok
    ∙ ap (written c.args.line.now) c.new-pipe.ensures)
    ∙ sym (put_moving c.args.self.now c.args.to (written c.args.line.now new_pipe)
    (written_moves c.args.line.now new_pipe))
