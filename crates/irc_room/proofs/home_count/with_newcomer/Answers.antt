use Rattle.std.proofs.Common.{ap, arith}
use Rattle.irc_room.specs.Loops.HomeCount.{come, home_count}
use Rattle.irc_effects.specs.Room.{Room}
use Rattle.irc_room.proofs.CountedUsers.{home_fits}
use Rattle.irc_room.proofs.home_count.with_newcomer.Goals as goal

pub overflow_add-result : goal.overflow_add-result
overflow_add-result c =
    omega (
      arith,
      c.requires,
      home_fits c.args.home.now c.tables.inside.users.users,
      ap
          (λ (room : Room). home_count c.args.home.now room.users) c.tables.view_is,
      c.len.ensures,
      c.len.type_inv,
      c.one_of.ensures,
      ap (come c.args.home.now) c.in-AddUser.is,
    )
