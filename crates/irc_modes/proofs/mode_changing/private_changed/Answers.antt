use Rattle.std.proofs.Common.{rules}
use Rattle.irc_modes.proofs.mode_changing.private_changed.Goals as goal

pub returns-in-true-Public : goal.returns-in-true-Public
returns-in-true-Public c = search rules
