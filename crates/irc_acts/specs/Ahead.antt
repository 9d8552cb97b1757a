-- The entries of a list are served one after another: each by the room as the entries before it
-- have left it.
use Rattle.std.specs.Prelude.{◌≡◌, ℕ, Option, List, [], ◌∷◌, ◌++◌}
use Rattle.std.specs.Borrow.{Bor}
use Rattle.std.specs.Option.{option_copied, option_map}
use Rattle.irc_names.specs.Fold.{key}
use Rattle.irc_names.specs.Tables.{row}
use Rattle.irc_channels.specs.declared.channel.Channel.{Channel}
use Rattle.irc_room.specs.Room.{Room}
use Rattle.irc_room.specs.InTurn.{after_all}
use Rattle.irc_acts.specs.declared.act.Act.{Act}
use Rattle.irc_acts.specs.Acts.{effects_among}

-- the room after the effects among some steps
abbrev pub ahead : Room → List Act → Room
ahead room acts = after_all room (effects_among acts)

-- the channel of a name in that room, if it is there
abbrev pub channel_ahead : Room → List Act → List ℕ → Option Channel
channel_ahead room acts name = row (ahead room acts).channels (key name)

-- a channel is found where another is there, and has the name of that one
abbrev pub IsNamedAs : Option (Bor Channel) → Option Channel → Type 0
IsNamedAs found other =
    option_map (λ (c : Channel). c.name) (option_copied found)
    ≡ option_map (λ (c : Channel). c.name) other

abbrev pub in_turn : {E : Type 0} → (Room → E → List Act) → Room → List E → List Act
in_turn serve room [] = []
in_turn serve room (entry ∷ entries) =
    serve room entry ++ in_turn serve (ahead room (serve room entry)) entries
