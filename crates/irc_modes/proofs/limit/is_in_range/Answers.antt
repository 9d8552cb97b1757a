use Rattle.std.proofs.Common.{rules}
use Rattle.irc_modes.proofs.limit.is_in_range.Goals as goal

pub returns-then-number-ge1 : goal.returns-then-number-ge1
returns-then-number-ge1 c = search rules
