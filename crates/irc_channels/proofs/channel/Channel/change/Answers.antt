use Rattle.std.proofs.Common.{◌≡◌, false, true}
use Rattle.irc_channels.proofs.channel.Channel.change.Goals as goal

pub returns-in_err-change-clause-none_added : goal.returns-in_err-change-clause-none_added
returns-in_err-change-clause-none_added c none =
    let bad : false ≡ true = c.in_err-change.ensures.none_added none in cc
