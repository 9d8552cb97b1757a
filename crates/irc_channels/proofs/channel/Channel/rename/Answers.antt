use Rattle.std.proofs.Common.{rules}
use Rattle.irc_channels.proofs.channel.Channel.rename.Goals as goal

pub returns : goal.returns
returns c = search rules
