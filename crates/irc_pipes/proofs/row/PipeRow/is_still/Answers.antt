use Rattle.std.proofs.Common.{◌∙◌, ap}
use Rattle.irc_pipes.specs.Pipes.{are_still_in}
use Rattle.irc_pipes.proofs.LeanRows.{still_if_empty}
use Rattle.irc_pipes.proofs.row.PipeRow.is_still.Goals as goal

pub returns : goal.returns
returns c =
    still_if_empty c.is_empty.result c.self.inside.pipes.entries c.self.invariant
    c.is_empty.ensures.0 c.is_empty.ensures.1
    ∙ ap are_still_in c.self.view_is
