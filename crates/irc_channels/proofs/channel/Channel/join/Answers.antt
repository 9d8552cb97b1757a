use Rattle.std.proofs.Common.{rules}
use Rattle.irc_channels.proofs.channel.Channel.join.Goals as goal

pub returns-clause-ok : goal.returns-clause-ok
returns-clause-ok c = search rules
