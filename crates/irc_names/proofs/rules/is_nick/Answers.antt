use Rattle.std.proofs.Common.{rules}
use Rattle.irc_names.specs.Names.{is_nick}
use Rattle.irc_names.proofs.rules.is_nick.Goals as goal

pub returns-then-are_nick_bytes : goal.returns-then-are_nick_bytes
unfolding is_nick
returns-then-are_nick_bytes c = search rules
