-- What a line brings that comes by a link, and whether it is there already: somebody who is not
-- behind the link has the nickname of a NICK, or the channel of a JOIN or NJOIN is there.
use Rattle.std.specs.Prelude.{ℕ, Bool, true, false, not, ◌||◌, is_some, Option, Some, None, Result}
use Rattle.std.specs.Prelude.{Ok, Err, List, if◌then◌else◌}
use Rattle.std.specs.Option.{option_map_or}
use Rattle.irc_line.specs.declared.reading.LineFault.{LineFault}
use Rattle.irc_line.specs.Messages.{Parsed}
use Rattle.irc_names.specs.Fold.{key}
use Rattle.irc_link_words.specs.Words.{unmarked}
use Rattle.irc_room.specs.Room.{Room}
use Rattle.irc_room.specs.Readers.{channel_at, home_under}
use Rattle.irc_routes.specs.Known.{Known}
use Rattle.irc_link_reader.specs.Reader.{is_behind_link}
use Rattle.irc_crossing.specs.Lines.{is_join_line, is_nick_line, is_njoin_line, word_at}
use Rattle.irc_stage.specs.View.{View}
use Rattle.irc_layer.specs.declared.holding.Brought.{Brought}
use Rattle.irc_layer.specs.declared.holding.Brought.TheVariants.{Held, New, Nothing}

abbrev pub is_held_in : Room → Known → ℕ → List ℕ → Bool
is_held_in room known link nick =
    option_map_or (λ home. not (is_behind_link known link home)) (home_under room (key nick)) false

abbrev pub is_held_at : Option View → ℕ → List ℕ → Bool
is_held_at None link nick = false
is_held_at (Some view) link nick = is_held_in view.room view.routes link nick

-- whether a channel is there
abbrev pub is_channel_at : Option View → List ℕ → Bool
is_channel_at None name = false
is_channel_at (Some view) name = is_some (channel_at view.room (key name))

abbrev pub whether_held : Bool → Brought
whether_held true = Held
whether_held false = New

abbrev pub brought : Option View → ℕ → Parsed → Brought
brought server link message =
    if is_nick_line message then whether_held (is_held_at server link (word_at 0 message))
    else (if is_join_line message || is_njoin_line message
    then whether_held (is_channel_at server (unmarked (word_at 0 message))) else Nothing)

abbrev pub brought_by : Option View → ℕ → Result Parsed LineFault → Brought
brought_by server link (Ok message) = brought server link message
brought_by server link (Err fault) = Nothing

abbrev pub is_held : Brought → Bool
is_held Held = true
is_held New = false
is_held Nothing = false

abbrev pub is_new : Brought → Bool
is_new New = true
is_new Held = false
is_new Nothing = false
