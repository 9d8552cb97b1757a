-- What a server raises in a channel, as a burst tells it, counts where the channel has a member of
-- the other side (RFC 2813 section 5.3.2). Where this end has taken somebody out of it meanwhile it
-- may have none, and the other end has raised it: then what of it is greater is set here.
--   b.net writes    :b.net NJOIN #c :bo     #c is here, with al, and bo comes to it
--   a.net writes    :al KICK #c bo :out
--   b.net writes    :b.net MODE #c +nk x    before it reads the KICK; here are +n and the key w
--   a.net does      what :b.net MODE #c +k x says, and writes that on its other links, marked
use Rattle.std.specs.Prelude.{ℕ, Bool, true, false, ◌&&◌, ◌||◌, Option, Some, None, Result, Ok, Err}
use Rattle.std.specs.Prelude.{List, [], ◌∷◌, if◌then◌else◌}
use Rattle.std.specs.List.{list_any}
use Rattle.std.specs.Option.{option_and_then}
use Rattle.irc_line.specs.declared.reading.LineFault.{LineFault}
use Rattle.irc_line.specs.Messages.{Parsed, text}
use Rattle.irc_line.specs.Reading.{read_of}
use Rattle.irc_names.specs.Fold.{same}
use Rattle.irc_names.specs.Names.{is_server}
use Rattle.irc_modes.specs.declared.modes.ModeChange.{ModeChange}
use Rattle.irc_room.specs.Room.{Room}
use Rattle.irc_merge.specs.Deeds.{is_greater_topic, raised_in}
use Rattle.irc_burst_lines.specs.DeedLines.{mode_parts}
use Rattle.irc_crossing.specs.declared.change.Change.{Change}
use Rattle.irc_crossing.specs.declared.change.Change.TheVariants.{Come, Rename, Go, Out, Join, Set}
use Rattle.irc_crossing.specs.declared.log.Entry.{Entry}
use Rattle.irc_crossing.specs.declared.modes.ChannelModes.{ChannelModes}
use Rattle.irc_crossing.specs.declared.setting.Setting.TheVariants.{Topic}
use Rattle.irc_crossing.specs.Hearing.{written_with}
use Rattle.irc_crossing.specs.Lines.{change_of, channel_modes, is_mode_line, is_topic_line}
use Rattle.irc_crossing.specs.Lines.{word_at}

-- whether a change takes somebody out of a channel; one of which nothing is left may have done so
abbrev pub takes_from : List ℕ → Option Change → Bool
takes_from channel None = true
takes_from channel (Some (Go nick other)) = true
takes_from channel (Some (Out nick at)) = same channel at
takes_from channel (Some (Join at begins)) = false
takes_from channel (Some (Come nick)) = false
takes_from channel (Some (Rename nick new)) = false
takes_from channel (Some (Set setting)) = false

abbrev pub has_taken_from : List Entry → List ℕ → Bool
has_taken_from log channel = list_any (λ (entry : Entry). takes_from channel entry.change) log

-- whether a server raises something by a line in a channel out of which this end has taken somebody
abbrev pub raises_from : List Entry → Parsed → Option (List ℕ) → Bool
raises_from log message None = false
raises_from log message (Some server) = is_server server
    && ((is_mode_line message || is_topic_line message) && has_taken_from log (word_at 0 message))

abbrev pub raises_by : List Entry → Parsed → Bool
raises_by log message = raises_from log message message.prefix

abbrev pub raises_in : List Entry → Result Parsed LineFault → Bool
raises_in log (Ok message) = raises_by log message
raises_in log (Err fault) = false

abbrev pub raises : List Entry → List ℕ → Bool
raises log line = raises_in log (read_of line)

-- ---- what of a line raises something in the channel that is there

abbrev pub modes_if : (server channel : List ℕ) → List ModeChange → Option (List ℕ)
modes_if server channel [] = None
modes_if server channel (change ∷ changes) =
    Some (text (mode_parts server channel (change ∷ changes)))

abbrev pub raised_modes : Room → (server : List ℕ) → ChannelModes → Option (List ℕ)
raised_modes room server modes =
    modes_if server modes.channel (raised_in room modes.channel modes.changes)

abbrev pub topic_raised : Room → Parsed → Change → Option (List ℕ)
topic_raised room message (Set (Topic channel topic)) =
    if is_greater_topic room channel topic
    then Some (text (written_with message.prefix message message.params)) else None
topic_raised room message other = None

abbrev pub raised_topic : Room → Parsed → Option (List ℕ)
raised_topic room message = option_and_then (topic_raised room message) (change_of message)

abbrev pub raised_from : Room → Parsed → (server : List ℕ) → Option ChannelModes → Option (List ℕ)
raised_from room message server None = raised_topic room message
raised_from room message server (Some modes) = raised_modes room server modes

abbrev pub raised_by : Room → Parsed → Option (List ℕ) → Option (List ℕ)
raised_by room message None = None
raised_by room message (Some server) = raised_from room message server (channel_modes message)

abbrev pub raised : Room → Result Parsed LineFault → Option (List ℕ)
raised room (Ok message) = raised_by room message message.prefix
raised room (Err fault) = None
