-- A channel of one server's part of the room is the room's, with those of the invited who are the
-- server's own.
use Rattle.std.proofs.Common.{◌≡◌, ℕ, Option, Some, None, List, refl, ◌∙◌, option_map}
use Rattle.std.specs.Option.{option_and_then}
use Rattle.irc_names.specs.Tables.{row}
use Rattle.irc_names.specs.TableLaws.{row-each}
use Rattle.irc_channels.specs.declared.channel.Channel.{Channel}
use Rattle.irc_room.specs.Room.{Room}
use Rattle.irc_room.specs.Invitations.{is_at, inviting_only, of_home}

pub home_row : (home : List ℕ) (room : Room) (q : List ℕ) → row (of_home home room).channels q
    ≡ option_map (inviting_only (is_at home room.users)) (row room.channels q)
unfolding of_home
home_row home room q =
    row-each (λ channel. Some (inviting_only (is_at home room.users) channel)) room.channels q
    ∙ by_row (row room.channels q)
  where
    by_row : (o : Option Channel)
        → option_and_then (λ channel. Some (inviting_only (is_at home room.users) channel)) o
        ≡ option_map (inviting_only (is_at home room.users)) o
    by_row None = refl
    by_row (Some channel) = refl
