use Rattle.std.proofs.Common.{◌≡◌, map, take}
use Rattle.irc_tables.specs.RowViews.{row_entry}
use Rattle.irc_effects.specs.Found.{users_under}
use Rattle.irc_room.proofs.viewers.users_of.Given as goal

abbrev pub invariant-loop-row : goal.invariant-loop-row
invariant-loop-row l = map (λ user. user.now) l.found.items ≡ users_under l.users.users
    (map row_entry (take l.row-index l.rows))
