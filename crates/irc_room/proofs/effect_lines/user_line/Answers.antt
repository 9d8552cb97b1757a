use Rattle.std.proofs.Common.{rules}
use Rattle.irc_room.proofs.effect_lines.user_line.Goals as goal

pub returns-in-Rename : goal.returns-in-Rename
returns-in-Rename c = search rules
