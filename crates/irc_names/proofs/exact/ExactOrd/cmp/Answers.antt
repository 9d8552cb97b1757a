use Rattle.std.proofs.Common.{rules}
use Rattle.irc_names.proofs.exact.ExactOrd.cmp.Goals as goal

pub returns : goal.returns
returns g c = search rules
