-- One end asks the other to tell of a channel, which then writes how that is spelled, who is in it
-- and what is set there. What it tells is set at the other end, not raised. The question is a line
-- of the layer, as a count is, and no server is given it:
--   a.net writes    TELL #c
--   b.net writes    COUNT 17 1 set
--                   :b.net NJOIN #c :
--                   COUNT 17 1 set
--                   :b.net NJOIN #c :bo
--                   COUNT 17 1 set
--                   :b.net TOPIC #c :hello
use Rattle.std.specs.Prelude.{ℕ, ◌&&◌, Option, Some, None, Result, Ok, Err, List, [], ◌∷◌}
use Rattle.std.specs.Prelude.{codes, if◌then◌else◌}
use Rattle.std.specs.Option.{is_none}
use Rattle.irc_line.specs.declared.reading.LineFault.{LineFault}
use Rattle.irc_line.specs.Messages.{Parsed, Written, nobody}
use Rattle.irc_line.specs.Reading.{read_of}
use Rattle.irc_names.specs.Names.{is_channel}
use Rattle.irc_link_words.specs.Words.{is_command}
use Rattle.irc_link_end.specs.LinkEnds.{counts}
use Rattle.irc_crossing.specs.Lines.{word_at}
use Rattle.irc_layer.specs.declared.end.End.{End}

abbrev pub tell_line : (words : List (List ℕ)) → Written
tell_line words = record {
  sender = nobody;
  command = codes "TELL";
  middle = words;
  last = None;
}

abbrev pub tell_parts : List ℕ → Written
tell_parts channel = tell_line (channel ∷ [])

abbrev pub asked_in : Parsed → Option (List ℕ)
asked_in message =
    if is_none message.prefix && is_command (codes "TELL") message.command
    then (if is_channel (word_at 0 message) then Some (word_at 0 message) else None)
    else None

abbrev pub asked_by : Result Parsed LineFault → Option (List ℕ)
asked_by (Ok message) = asked_in message
asked_by (Err fault) = None

-- the channel that the other end asks of by a line, where both ends count pieces
abbrev pub asked_of : List ℕ → End → Option (List ℕ)
asked_of line end = if end.link.is_met && counts end.link then asked_by (read_of line) else None
