-- How a room is stored as a server keeps it.
use Rattle.std.specs.Prelude.{ℕ, Bool, List, refl}
use Rattle.std.specs.Coded.{Coded, code_by, coded×, coded_bool}
use Rattle.std.specs.FinMap.{code}
use Rattle.irc_names.specs.Tables.{Table}
use Rattle.irc_users.specs.declared.user.User.{User}
use Rattle.irc_channels.specs.declared.channel.Channel.{Channel}
use Rattle.irc_effects.specs.Applying.{ServerRoom}
use Rattle.irc_effects.specs.Room.{Room}
use Rattle.irc_room.specs.Codes.{coded_name}

-- as its fields
abbrev pub server_room_code : Coded (Table User) → Coded Channel → Coded ServerRoom
server_room_code users channel =
    code_by (List ℕ × (Bool × (Table User × Table Channel)))
    (coded× coded_name (coded× coded_bool (coded× users (code coded_name channel))))
    (λ k. (k.own, (k.failed, (k.room.users, k.room.channels))))
    (λ p. record {
      own = p.0;
      failed = p.1.0;
      room = record { users = p.1.1.0; channels = p.1.1.1 };
    })
    (λ _. refl)

-- a room as the server of this name keeps it, for which memory ran out or did not
abbrev pub server_room_of : List ℕ → Bool → Room → ServerRoom
server_room_of own failed room = record { own = own; failed = failed; room = room }
