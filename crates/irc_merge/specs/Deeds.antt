-- What a line of a link says, without the numbers that stand for servers in it (RFC 2813 sections 4
-- and 5). Names of servers in front are those whose lines these are; a viewer is shown its own
-- server in their place.
use Rattle.std.specs.Prelude.{ℕ, Bool, true, false, Some, List, [], ◌∷◌, ◌++◌, if◌then◌else◌}
use Rattle.std.specs.List.{flat_map}
use Rattle.std.specs.Option.{option_map_or}
use Rattle.std.specs.Ordering.{is_lt}
use Rattle.irc_names.specs.Fold.{key}
use Rattle.irc_names.specs.Greater.{bytes_cmp}
use Rattle.irc_names.specs.Tables.{row}
use Rattle.irc_channels.specs.declared.channel.Channel.{Channel}
use Rattle.irc_channels.specs.declared.flags.Flags.{Flags}
use Rattle.irc_modes.specs.declared.modes.ModeChange.{ModeChange}
use Rattle.irc_modes.specs.declared.modes.ModeLetter.{ModeLetter}
use Rattle.irc_modes.specs.declared.modes.ModeLetter.TheVariants as letter
use Rattle.irc_modes.specs.Raised.{raising}
use Rattle.irc_room.specs.effect.By.TheVariants as by
use Rattle.irc_room.specs.effect.Effect.{Effect}
use Rattle.irc_room.specs.effect.Effect.TheVariants.{Quit, Join, ChangeModes, SetTopic}
use Rattle.irc_room.specs.Room.{Room}
use Rattle.irc_room.specs.After.{titled_by}
use Rattle.irc_room.specs.InTurn.{after_all}
use Rattle.irc_merge.specs.ShownAlong.{shown_along}
use Rattle.irc_merge.specs.Quits.{quits_of, users_at, collision_text}

-- what a line between servers tells: an effect, or what no client can bring about
pub data Deed : Type 0 where
  -- a line of a user, or NICK with which a user is introduced
  does : (effect : Effect) → Deed
  -- SERVER: the network has a server more
  gains : (uplink name info : List ℕ) → Deed
  -- SQUIT: it has lost one, and its users quit
  loses : (server name text : List ℕ) → Deed
  -- KILL: the holder of a nickname quits
  kills : (server nick : List ℕ) → Deed
  -- NJOIN: members of a channel, each with its flags
  brings : (server channel : List ℕ) (members : List (List ℕ × Flags)) → Deed
  -- MODE of a server
  sets : (server channel : List ℕ) (changes : List ModeChange) → Deed
  -- TOPIC of a server
  tops : (server channel topic : List ℕ) → Deed

-- a server gives a member a flag
abbrev pub flag_given : Bool → ModeLetter → List ℕ → List ℕ → List Effect
flag_given has which channel nick =
    if has then ChangeModes by.Home channel
    (record { plus = true; letter = which; word = Some nick } ∷ []) ∷ [] else []

-- a member comes with its flags: it joins, and is then given each flag that it has
abbrev pub member_comes : List ℕ → List ℕ × Flags → List Effect
member_comes channel member =
    Join member.0 channel false
    ∷ (flag_given member.1.op letter.Operator channel member.0
    ++ flag_given member.1.voice letter.Voice channel member.0)

-- changes of a channel's modes by a server, where there are any
abbrev pub changes_made : List ℕ → List ModeChange → List Effect
changes_made channel [] = []
changes_made channel (change ∷ changes) = ChangeModes by.Home channel (change ∷ changes) ∷ []

-- of the changes that a server tells, those that raise something in the channel that is there (our
-- own choice)
abbrev pub raised_in : Room → List ℕ → List ModeChange → List ModeChange
raised_in room channel changes =
    option_map_or (λ (c : Channel). raising changes c.modes) (row room.channels (key channel)) []

-- whether a topic is greater than that of the channel that is there (our own choice)
abbrev pub is_greater_topic : Room → List ℕ → List ℕ → Bool
is_greater_topic room channel topic =
    option_map_or (λ (c : Channel). is_lt (bytes_cmp c.topic topic))
    (row room.channels (key channel)) false

-- what a deed does to a room, one effect after another
abbrev pub effects_of : Room → Deed → List Effect
effects_of room (does effect) = effect ∷ []
effects_of room (gains uplink name info) = []
effects_of room (loses server name text) = quits_of text (users_at name room)
effects_of room (kills server nick) = Quit nick collision_text ∷ []
effects_of room (brings server channel members) = flat_map (member_comes channel) members
effects_of room (sets server channel changes) =
    changes_made channel (raised_in room channel changes)
effects_of room (tops server channel topic) =
    if is_greater_topic room channel topic then SetTopic by.Home channel topic ∷ [] else []

-- What a deed does first: NJOIN has the channel that is there take its spelling, where that is
-- greater.
-- It is no effect, and nobody is shown it.
abbrev pub titled : Room → Deed → Room
titled room (brings server channel members) = titled_by channel room
titled room deed = room

unfoldable pub after_deed : Room → Deed → Room
after_deed room deed = after_all (titled room deed) (effects_of room deed)

-- the room after some deeds, one after another
abbrev pub after_deeds : Room → List Deed → Room
after_deeds room [] = room
after_deeds room (deed ∷ deeds) = after_deeds (after_deed room deed) deeds

-- the lines that the user of a nickname is shown by a deed, and by some deeds, one after another
unfoldable pub shown_by : List ℕ → Room → Deed → List (List ℕ)
shown_by viewer room deed = shown_along viewer (titled room deed) (effects_of room deed)

abbrev pub shown_by_all : List ℕ → Room → List Deed → List (List ℕ)
shown_by_all viewer room [] = []
shown_by_all viewer room (deed ∷ deeds) =
    shown_by viewer room deed ++ shown_by_all viewer (after_deed room deed) deeds
