-- Whether two halves of a network agree, as a test.
use Rattle.std.specs.Prelude.{ℕ, Bool, true, false, ◌&&◌, Option, Some, None, List, not, eqb}
use Rattle.std.specs.Bool.{Decides}
use Rattle.std.specs.List.{list_all}
use Rattle.std.specs.Option.{option_map_or}
use Rattle.std.specs.Cmp.Lexicographic.{pointwise}
use Rattle.std.specs.FinMap.{entries}
use Rattle.irc_names.specs.Spellings.{exactly_same}
use Rattle.irc_names.specs.Tables.{row}
use Rattle.irc_modes.specs.declared.modes.Modes.{Modes}
use Rattle.irc_modes.specs.declared.modes.Privacy.{Privacy}
use Rattle.irc_modes.specs.declared.modes.Privacy.TheVariants.{Public, Private, Secret}
use Rattle.irc_channels.specs.declared.channel.Channel.{Channel}
use Rattle.irc_room.specs.Room.{Room}
use Rattle.irc_merge.specs.Merge.{room_without, Agree}

abbrev pub same_flag : Bool → Bool → Bool
same_flag true other = other
same_flag false other = not other

abbrev pub same_privacy : Privacy → Privacy → Bool
same_privacy Public Public = true
same_privacy Private Private = true
same_privacy Secret Secret = true
same_privacy one other = false

abbrev pub same_key : Option (List ℕ) → Option (List ℕ) → Bool
same_key None None = true
same_key (Some one) (Some other) = exactly_same one other
same_key one other = false

abbrev pub same_limit : Option ℕ → Option ℕ → Bool
same_limit None None = true
same_limit (Some one) (Some other) = eqb one other
same_limit one other = false

abbrev pub same_modes : Modes → Modes → Bool
same_modes one other =
    same_flag one.invite_only other.invite_only
    && (same_flag one.moderated other.moderated
    && (same_flag one.no_outside other.no_outside
    && (same_flag one.topic_locked other.topic_locked
    && (same_privacy one.privacy other.privacy
    && (same_key one.key other.key
    && (same_limit one.limit other.limit
    && pointwise exactly_same one.bans other.bans))))))

-- names, keys, bans and topics are compared by their bytes
abbrev pub are_alike : Channel → Channel → Bool
are_alike one other = exactly_same one.name other.name
    && (same_modes one.modes other.modes && exactly_same one.topic other.topic)

-- of each channel of the one half that the other has too
abbrev pub agree : Room → Room → Bool
agree one other =
    list_all (λ (e : List ℕ × Channel). option_map_or (are_alike e.1) (row
    (room_without other one).channels e.0) true) (entries (room_without one other).channels)

-- the test tells whether they agree
abbrev pub AgreeTells : Type 0
AgreeTells = (one other : Room) → Decides (agree one other) (Agree one other)
