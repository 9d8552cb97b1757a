use Rattle.std.proofs.Common.{ap}
use Rattle.irc_effects.specs.Room.{Room}
use Rattle.irc_room.proofs.CountedUsers.{none_home}
use Rattle.irc_room.proofs.room.Room.new.Goals as goal

pub invariant_of-result : goal.invariant_of-result
invariant_of-result c =
    none_home c.args.own c.new.result.users (ap (λ (room : Room). room.users) c.new.ensures)
