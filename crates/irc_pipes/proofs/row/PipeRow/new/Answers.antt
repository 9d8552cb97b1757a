use Rattle.irc_pipes.proofs.LeanRows.{lean_empty}
use Rattle.irc_pipes.proofs.row.PipeRow.new.Goals as goal

pub invariant_of-result : goal.invariant_of-result
invariant_of-result c = lean_empty c.new.result.entries c.new.ensures.empty
