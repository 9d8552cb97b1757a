use Rattle.std.proofs.Common.{◌≡◌, ◌++◌, map, take}
use Rattle.std.specs.List.{flat_map}
use Rattle.irc_room.specs.Loops.Viewing.{own_nick}
use Rattle.irc_room.proofs.showing.add_each.Given as goal

abbrev pub invariant-loop-user : goal.invariant-loop-user
invariant-loop-user l = l.nicks.items ≡ l.fn.nicks.items
    ++ flat_map (own_nick l.own) (map (λ user. user.now) (take l.user-index l.users))
