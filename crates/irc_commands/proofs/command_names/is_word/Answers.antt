use Rattle.std.proofs.Common.{rules}
use Rattle.irc_commands.proofs.command_names.is_word.Goals as goal

pub returns : goal.returns
returns c = search rules
