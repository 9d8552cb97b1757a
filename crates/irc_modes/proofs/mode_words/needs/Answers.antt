use Rattle.std.proofs.Common.{rules}
use Rattle.irc_modes.proofs.mode_words.needs.Goals as goal

pub returns-in-Key-2 : goal.returns-in-Key-2
returns-in-Key-2 c = search rules
