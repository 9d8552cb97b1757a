use Rattle.std.proofs.Common.{◌∙◌, sym}
use Rattle.irc_stage.specs.Loops.Numbered.{numbered}
use Rattle.irc_pipes.specs.Pipes.{pipe_in}
use Rattle.irc_pipes.proofs.LeanRows.{put_again, put_still}
use Rattle.irc_pipes.proofs.Rows.{taken_out}
use Rattle.irc_pipes.proofs.row.without_still.Goals as goal

pub returns-then-is_still_to : goal.returns-then-is_still_to
returns-then-is_still_to c =
    taken_out c.args.pipes.now c.remove.new.self c.args.to c.remove.ensures.updates
    ∙ sym (put_still (numbered c.args.pipes.now) c.args.to
    (pipe_in c.args.to (numbered c.args.pipes.now))
    (sym c.is_still_to.ensures ∙ c.if-is_still_to.true))

pub returns-else-is_still_to : goal.returns-else-is_still_to
returns-else-is_still_to c = sym (put_again (numbered c.args.pipes.now) c.args.to
    (sym c.is_still_to.ensures ∙ c.if-is_still_to.false))
