use Rattle.irc_effects.proofs.EndsAndStarts.{last_member_ends_channel}
use Rattle.irc_effects.proofs.laws.last_member_ends_channel.Goals as goal

pub returns : goal.returns
returns c = last_member_ends_channel
