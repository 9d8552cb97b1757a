use Rattle.std.proofs.Common.{◌∙◌, ap}
use Rattle.std.specs.FinMap.{keys}
use Rattle.std.specs.List.{find}
use Rattle.irc_pipes.specs.Pipes.{has_byte, pipe_in}
use Rattle.irc_pipes.specs.Loops.Rows.{PipeRow}
use Rattle.irc_pipes.proofs.Rows.{keys_listed}
use Rattle.irc_pipes.proofs.row.PipeRow.first.Goals as goal

pub loop-to-init : goal.loop-to-init
loop-to-init c = (
  ap (find (λ to. has_byte (pipe_in to c.args.self.now)))
      (c.into_iter-to-iterator.ensures.into_iter_gives ∙ c.keys-to-items.ensures.rest
      ∙ keys_listed c.self.inside.pipes c.keys-to-items.ensures.ordered)
      ∙ ap (λ (row : PipeRow). find (λ to. has_byte (pipe_in to c.args.self.now))
      (keys row)) c.self.view_is,
  tt,
  tt,
)
