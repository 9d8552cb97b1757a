use Rattle.std.proofs.Common.{rules}
use Rattle.irc_acts.proofs.ahead.channels_by.Goals as goal

pub returns-in-Do-Join : goal.returns-in-Do-Join
returns-in-Do-Join c = search rules
