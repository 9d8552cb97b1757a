use Rattle.std.proofs.Common.{ap, arith}
use Rattle.irc_names.specs.Fold.{key}
use Rattle.irc_room.specs.Loops.HomeCount.{gone}
use Rattle.irc_room.proofs.CountedUsers.{one_among}
use Rattle.irc_room.proofs.home_count.staying.Goals as goal

pub overflow_sub-result : goal.overflow_sub-result
overflow_sub-result c = omega (
  arith,
  c.one_named.ensures,
  c.requires,
  one_among c.args.home.now c.args.tables.now.users (key c.in-Quit.nick),
)

pub returns-in-Quit : goal.returns-in-Quit
returns-in-Quit c = omega (
  arith,
  overflow_sub-result c,
  c.one_named.ensures,
  ap (gone c.args.home.now c.args.tables.now.users) c.in-Quit.is,
)
