use Rattle.std.proofs.Common.{rules}
use Rattle.irc_names.specs.Names.{is_server}
use Rattle.irc_names.proofs.rules.is_server.Goals as goal

pub returns-then-are_server_bytes : goal.returns-then-are_server_bytes
unfolding is_server
returns-then-are_server_bytes c = search rules
