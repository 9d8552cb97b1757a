use Rattle.std.proofs.Common.{arith}
use Rattle.irc_acts.proofs.MovesAhead.{own_are_few}
use Rattle.irc_acts.proofs.ahead.know_few_channels.Goals as goal

pub returns : goal.returns
returns c = omega (
  arith,
  own_are_few c.args.me.now c.args.room.now.room c.channels.result.now
      c.channels.ensures,
  c.channels.type_inv,
)
