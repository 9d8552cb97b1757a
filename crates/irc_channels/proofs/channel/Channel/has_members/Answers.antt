use Rattle.std.proofs.Common.{rules}
use Rattle.irc_channels.proofs.channel.Channel.has_members.Goals as goal

pub returns : goal.returns
returns c = search rules
