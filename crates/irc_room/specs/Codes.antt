-- How a room is stored.
use Rattle.std.specs.Prelude.{ℕ, List, refl}
use Rattle.std.specs.Coded.{Coded, code_by, coded×, coded_ℕ, coded_list}
use Rattle.std.specs.FinMap.{code}
use Rattle.irc_names.specs.Tables.{Table}
use Rattle.irc_users.specs.declared.user.User.{User}
use Rattle.irc_channels.specs.declared.channel.Channel.{Channel}
use Rattle.irc_effects.specs.Room.{Room}

abbrev pub coded_name : Coded (List ℕ)
coded_name = coded_list coded_ℕ

-- as its fields
abbrev pub room_code : Coded (Table User) → Coded Channel → Coded Room
room_code users channel =
    code_by (Table User × Table Channel) (coded× users (code coded_name channel))
    (λ r. (r.users, r.channels))
    (λ p. record { users = p.0; channels = p.1 })
    (λ _. refl)

-- the room of these two tables
abbrev pub room_of : Table User → Table Channel → Room
room_of users channels = record { users = users; channels = channels }
