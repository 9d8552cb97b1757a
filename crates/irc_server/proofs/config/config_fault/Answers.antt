use Rattle.std.proofs.Common.{rules}
use Rattle.irc_server.proofs.config.config_fault.Goals as goal

pub returns-then-has_double : goal.returns-then-has_double
returns-then-has_double c = search rules

pub returns-else-has_double : goal.returns-else-has_double
returns-else-has_double c = search rules
