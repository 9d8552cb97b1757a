-- Which channel the other end is asked to tell of, as a line comes by which somebody comes to it.
--
-- A channel may end at this end while somebody comes to it at the other. Here who comes makes it
-- anew, and nothing is set in it; there it was never without members:
--   a.net has put out   :al PART #c :bye, by which #c has ended
--   b.net writes        :bo JOIN #c                 and reads the PART: #c is there, with a topic
--   a.net writes        TELL #c                     behind the JOIN
--   b.net writes        :b.net NJOIN #c :, :b.net NJOIN #c :bo, and :b.net TOPIC #c :hello, each
--                       behind COUNT 17 1 set: as it is, whoever is left in #c by then
-- So it is where a channel of that name has begun here meanwhile:
--   a.net has put out   :al PART #c :bye, and :ann JOIN #c\7o
-- It may have ended here only behind something that the other end had not read as it wrote the
-- line, and that tells of it, or takes out of all channels: somebody is gone, or a server is lost.
-- A server brings members itself only as the link begins, when it has read nothing yet; what is set
-- in a channel that both have is then told by both. So of its own NJOIN the second is not asked.
use Rattle.std.specs.Prelude.{ℕ, Bool, true, false, not, ◌&&◌, ◌||◌, Option, Some, None, Result, Ok}
use Rattle.std.specs.Prelude.{Err, List, if◌then◌else◌}
use Rattle.std.specs.List.{list_any}
use Rattle.std.specs.Option.{option_and_then}
use Rattle.irc_line.specs.declared.reading.LineFault.{LineFault}
use Rattle.irc_line.specs.Messages.{Parsed}
use Rattle.irc_line.specs.Reading.{read_of}
use Rattle.irc_names.specs.Fold.{same}
use Rattle.irc_crossing.specs.declared.change.Change.{Change}
use Rattle.irc_crossing.specs.declared.change.Change.TheVariants.{Come, Rename, Go, Out, Join, Set}
use Rattle.irc_crossing.specs.declared.log.Entry.{Entry}
use Rattle.irc_crossing.specs.Lines.{change_of, is_same_prefix}
use Rattle.irc_crossing.specs.Settings.{is_in}

-- whether a channel has begun by a change
abbrev pub begins_by : List ℕ → Option Change → Bool
begins_by channel None = false
begins_by channel (Some (Join at begins)) = begins && same channel at
begins_by channel (Some (Come nick)) = false
begins_by channel (Some (Rename nick new)) = false
begins_by channel (Some (Go nick other)) = false
begins_by channel (Some (Out nick at)) = false
begins_by channel (Some (Set setting)) = false

-- whether a change tells of a channel
abbrev pub tells_of : List ℕ → Option Change → Bool
tells_of channel None = false
tells_of channel (Some (Join at begins)) = same channel at
tells_of channel (Some (Come nick)) = false
tells_of channel (Some (Rename nick new)) = false
tells_of channel (Some (Go nick other)) = false
tells_of channel (Some (Out nick at)) = same channel at
tells_of channel (Some (Set setting)) = is_in channel setting

-- whether one takes out of all channels; a change of which nothing is left may have been any
abbrev pub takes_out : Option Change → Bool
takes_out None = true
takes_out (Some (Go nick other)) = true
takes_out (Some (Join at begins)) = false
takes_out (Some (Come nick)) = false
takes_out (Some (Rename nick new)) = false
takes_out (Some (Out nick at)) = false
takes_out (Some (Set setting)) = false

abbrev pub has_begun : List Entry → List ℕ → Bool
has_begun log channel = list_any (λ (entry : Entry). begins_by channel entry.change) log

abbrev pub has_told_of : List Entry → List ℕ → Bool
has_told_of log channel = list_any (λ (entry : Entry). tells_of channel entry.change) log

abbrev pub has_taken_out : List Entry → Bool
has_taken_out log = list_any (λ (entry : Entry). takes_out entry.change) log

-- `is_own` is whether the server at the other end writes of itself
abbrev pub may_have_ended : List Entry → (is_own : Bool) → List ℕ → Bool
may_have_ended log is_own channel =
    has_told_of log channel || (not is_own && has_taken_out log)

-- `is_held` is whether the channel is here as the line comes
abbrev pub asked_by : List Entry → (is_own is_held : Bool) → Change → Option (List ℕ)
asked_by log is_own is_held (Join channel begins) =
    if (not is_held || has_begun log channel) && may_have_ended log is_own channel
    then Some channel else None
asked_by log is_own is_held (Come nick) = None
asked_by log is_own is_held (Rename nick new) = None
asked_by log is_own is_held (Go nick other) = None
asked_by log is_own is_held (Out nick channel) = None
asked_by log is_own is_held (Set setting) = None

-- `peer` is the server at the other end
abbrev pub asked_message : List Entry → (peer : List ℕ) → (is_held : Bool) → Parsed
    → Option (List ℕ)
asked_message log peer is_held message = option_and_then
    (asked_by log (is_same_prefix (Some peer) message.prefix) is_held) (change_of message)

abbrev pub asked_in : List Entry → (peer : List ℕ) → (is_held : Bool) → Result Parsed LineFault
    → Option (List ℕ)
asked_in log peer is_held (Ok message) = asked_message log peer is_held message
asked_in log peer is_held (Err fault) = None

abbrev pub asked : List Entry → (peer : List ℕ) → (is_held : Bool) → (line : List ℕ)
    → Option (List ℕ)
asked log peer is_held line = asked_in log peer is_held (read_of line)
