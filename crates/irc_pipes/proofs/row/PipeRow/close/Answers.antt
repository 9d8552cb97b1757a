use Rattle.std.proofs.Common.{◌∙◌, ap, subst, sym}
use Rattle.std.specs.FinMap.{remove}
use Rattle.irc_stage.specs.Loops.Numbered.{numbered}
use Rattle.irc_pipes.specs.Pipes.{IsLean}
use Rattle.irc_pipes.specs.Loops.Rows.{PipeRow}
use Rattle.irc_pipes.proofs.LeanRows.{lean_without}
use Rattle.irc_pipes.proofs.Rows.{taken_out}
use Rattle.irc_pipes.proofs.row.PipeRow.close.Goals as goal

pub invariant_of-self : goal.invariant_of-self
invariant_of-self c =
    subst IsLean
    (sym (taken_out c.self.inside.pipes c.remove.new.self c.args.to c.remove.ensures.updates))
    (lean_without (numbered c.self.inside.pipes) c.args.to c.self.invariant)

pub returns : goal.returns
returns c = taken_out c.self.inside.pipes c.remove.new.self c.args.to c.remove.ensures.updates
    ∙ ap (λ (row : PipeRow). remove row c.args.to) c.self.view_is
