-- The lists of a JOIN, read from their front, and what each channel adds.
use Rattle.std.specs.Prelude.{◌≡◌, ℕ, Bool, Option, Some, None, List, [], ◌∷◌, Result}
use Rattle.std.specs.Global.{Vec}
use Rattle.std.specs.declared.alloc.AllocError.{AllocError}
use Rattle.irc_channels.specs.declared.channel.Channel.{Channel}
use Rattle.irc_room.specs.Effects.{is_member}
use Rattle.irc_acts.specs.declared.act.Act.{Act}
use Rattle.irc_acts.specs.declared.context.Context.{Context}
use Rattle.irc_acts.specs.Ahead.{ahead}
use Rattle.irc_acts.specs.CommaLists.{pieces, pieces_left}
use Rattle.irc_acts.specs.Steps.{by_room, AddsTo}
use Rattle.irc_channel_commands.specs.Join.{asks, join_one, joins, joins_asked, joins_found}

-- the next key of what is left of a list of keys, which is empty where nothing is left, and what is
-- left then
abbrev pub IsNextKey : Option (List ℕ) → List ℕ → Option (List ℕ) → Type 0
IsNextKey None key more = (key ≡ []) × (more ≡ None)
IsNextKey (Some keys) key more = pieces keys ≡ key ∷ pieces_left more

-- whether the user is a member of the channel of a name, once some steps are done
abbrev pub is_in_ahead : Context → List Act → List ℕ → Bool
is_in_ahead context steps name =
    is_member (ahead context.room.now.room steps) context.me.now.nick name

-- a call adds what one entry of the list does, in the room as the steps before it leave it
abbrev pub JoinsOne : Context → List ℕ → List ℕ → Vec Act → Vec Act → Result (Unit {0}) AllocError
    → Type 0
JoinsOne context name given old new result =
    AddsTo result old new
    (join_one context.me.now (ahead context.room.now.room old.items) (asks name given))

-- of a channel that the user is not in
abbrev pub JoinsFound : Context → List ℕ → List ℕ → Vec Act → Vec Act → Result (Unit {0}) AllocError
    → Type 0
JoinsFound context asked given old new result =
    AddsTo result old new (by_room context joins_asked (asks asked given))

-- of one that is there, too
abbrev pub JoinsThere : Context → List ℕ → List ℕ → Channel → Vec Act → Vec Act
    → Result (Unit {0}) AllocError → Type 0
JoinsThere context asked given channel old new result =
    AddsTo result old new (by_room context joins_found (asks asked given) (Some channel))

-- of one that lets the user in
abbrev pub Enters : Context → List ℕ → Bool → Channel → Vec Act → Vec Act
    → Result (Unit {0}) AllocError → Type 0
Enters context asked op channel old new result =
    AddsTo result old new (by_room context joins asked op channel)
