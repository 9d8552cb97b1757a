use Rattle.std.proofs.Common.{rules}
use Rattle.irc_line.proofs.Completed.{tells_tail}
use Rattle.irc_line.proofs.framing.Framer.is_empty.Goals as goal

pub returns-then-is_empty-clause-tail : goal.returns-then-is_empty-clause-tail
returns-then-is_empty-clause-tail c = tells_tail _ _ (search rules)

pub returns-else-is_empty-clause-tail : goal.returns-else-is_empty-clause-tail
returns-else-is_empty-clause-tail c = tells_tail _ _ (search rules)
