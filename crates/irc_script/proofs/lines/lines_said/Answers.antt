use Rattle.std.proofs.Common.{rules}
use Rattle.irc_script.proofs.lines.lines_said.Goals as goal

pub returns : goal.returns
returns c = search rules
