-- What becomes of a line that comes by a link, by the log of this end: the line as the server is to
-- be given it. `Changes.antt` has the rules, with two lines of wire each.
--
-- Where no name in it is another now, a line is given byte for byte. Where somebody was killed here
-- who does something by it, it is left out, and so is one that is for somebody who is gone:
--   a.net has put out   :a.net KILL bo :..
--   b.net writes        :bo PRIVMSG #c :hello       left out
--   b.net writes        :bea INVITE bo #c           left out
-- Of the letters of a MODE those are left out that are of no member any more.
--   a.net has put out   :al PART #c :bye
--   b.net writes        :bo MODE #c +ol al 5        becomes :bo MODE #c +l :5
use Rattle.std.specs.Prelude.{ℕ, zero, suc, ◌-◌, Bool, true, false, ◌&&◌, ◌||◌, Option, Some, None}
use Rattle.std.specs.Prelude.{Result, Ok, Err, List, [], ◌∷◌, length, take, is_some}
use Rattle.std.specs.Prelude.{if◌then◌else◌}
use Rattle.std.specs.List.{slice_get}
use Rattle.std.specs.Option.{is_none, option_map, option_map_or}
use Rattle.std.specs.Cmp.Lexicographic.{pointwise}
use Rattle.std.specs.Ordering.{is_lt}
use Rattle.std.specs.Str.{bytes_eq}
use Rattle.irc_line.specs.declared.reading.LineFault.{LineFault}
use Rattle.irc_line.specs.Messages.{Parsed, Sender, Written, nobody, named, text}
use Rattle.irc_line.specs.Reading.{read_of}
use Rattle.irc_modes.specs.declared.modes.ModeChange.{ModeChange}
use Rattle.irc_names.specs.Fold.{same}
use Rattle.irc_names.specs.Greater.{bytes_cmp}
use Rattle.irc_names.specs.Names.{is_channel, is_nick}
use Rattle.irc_link_words.specs.Words.{is_marked, unmarked}
use Rattle.irc_burst_lines.specs.DeedLines.{mode_parts}
use Rattle.irc_crossing.specs.declared.change.Change.{Change}
use Rattle.irc_crossing.specs.declared.change.Change.TheVariants.{Come, Rename, Go, Out, Join, Set}
use Rattle.irc_crossing.specs.declared.hearing.Given.{Given}
use Rattle.irc_crossing.specs.declared.hearing.Given.TheVariants.{AsItCame, Changed, LeftOut}
use Rattle.irc_crossing.specs.declared.hearing.Given.TheVariants.{Brings, Kills, Sets}
use Rattle.irc_crossing.specs.declared.log.Entry.{Entry}
use Rattle.irc_crossing.specs.declared.modes.ChannelModes.{ChannelModes}
use Rattle.irc_crossing.specs.Asking.{asked_message}
use Rattle.irc_crossing.specs.Letters.{letters_left, LettersLeft}
use Rattle.irc_crossing.specs.Logs.{log_behind, means_as, through}
use Rattle.irc_crossing.specs.Lines.{change_of, channel_modes, is_for_somebody, is_join_line}
use Rattle.irc_crossing.specs.Lines.{is_kick_line, is_nick_line, is_part_line, is_topic_line}
use Rattle.irc_crossing.specs.Lines.{is_same_prefix, logged, brings_nobody, word_at}

-- ---- nicknames in a line

-- a word as a nickname, by what becomes of those; one that is none stays
abbrev pub word_now : (List ℕ → Option (List ℕ)) → List ℕ → Option (List ℕ)
word_now now word = if is_nick word then now word else Some word

-- a word in its place among others; none where that one is gone
abbrev pub words_now_at : ℕ → (List ℕ → Option (List ℕ)) → List (List ℕ)
    → Option (List (List ℕ))
words_now_at zero now [] = Some []
words_now_at (suc place) now [] = Some []
words_now_at zero now (word ∷ words) = option_map (λ it. it ∷ words) (word_now now word)
words_now_at (suc place) now (word ∷ words) =
    option_map (λ more. word ∷ more) (words_now_at place now words)

-- ---- a line that is no NICK

-- whether what a line sets is left: a topic is, and how a channel is spelled, where this end has
-- set no greater one
abbrev pub stays : List Entry → Parsed → Bool
stays log message =
    if is_topic_line message || brings_nobody message
    then option_map_or (λ change. is_some (through (Some change) log)) (change_of message) true
    else true

-- the parameters of a line; none where whom it is for is gone, or what it sets is not left
abbrev pub words_left : List Entry → Parsed → Option (List (List ℕ))
words_left log message =
    if is_kick_line message
    then words_now_at 1 (means_as log (Some (word_at 0 message))) message.params
    else (if is_for_somebody message then words_now_at 0 (means_as log None) message.params
    else (if stays log message then Some message.params else None))

-- Who a line is from: none where that one is gone, or parts with a channel that it is out of. A
-- server stays who it is.
abbrev pub doer_now : List Entry → Parsed → List ℕ → Option (List ℕ)
doer_now log message doer =
    if is_part_line message then word_now (means_as log (Some (word_at 0 message))) doer
    else word_now (means_as log None) doer

-- who a line is from, as it is written again
abbrev pub sender_again : Option (List ℕ) → Sender
sender_again None = nobody
sender_again (Some name) = named name

-- a line from somebody, with such parameters
abbrev pub written_with : Option (List ℕ) → Parsed → List (List ℕ) → Written
written_with prefix message params = record {
  sender = sender_again prefix;
  command = message.command;
  middle = take (length params - 1) params;
  last = slice_get params (length params - 1);
}

-- the line from this one, with these parameters; as it came, where both are as they were
abbrev pub given_with : Parsed → Option (List ℕ) → List (List ℕ) → Given
given_with message prefix params =
    if is_same_prefix prefix message.prefix && pointwise bytes_eq params message.params
    then AsItCame else Changed (record { items = text (written_with prefix message params) })

abbrev pub given_if : Parsed → Option (List ℕ) → Option (List (List ℕ)) → Given
given_if message prefix None = LeftOut
given_if message prefix (Some params) = given_with message prefix params

-- What somebody does who is gone here: a KICK and a TOPIC are done as by the server at the other
-- end, nothing else is.
--   a.net has put out   :a.net KILL bo :..     b.net writes   :bo TOPIC #c :x
--   a.net does          :b.net TOPIC #c :x
abbrev pub set_if : Parsed → (peer : List ℕ) → Option (List (List ℕ)) → Given
set_if message peer None = LeftOut
set_if message peer (Some params) =
    Sets (record { items = text (written_with (Some peer) message params) })

abbrev pub set_given : List Entry → (peer : List ℕ) → Parsed → Given
set_given log peer message =
    if is_kick_line message || is_topic_line message
    then set_if message peer (words_left log message) else LeftOut

-- Somebody comes to a channel that is not the same at both ends: it was begun by both, or may have
-- ended here and is asked for. A JOIN would not show that the user is an operator, and leave the
-- channel's name as it is: it has the greatest spelling of what both wrote.
--   a.net has put out   :al JOIN #c\7o         b.net writes   :bo JOIN #C\7o
--   a.net does          :b.net NJOIN #c :@bo
--   a.net has put out   :al PART #c :bye       b.net writes   :bo JOIN #c
--   a.net does          :b.net NJOIN #c :bo    and writes TELL #c
abbrev pub greater_by : Option Change → (channel : List ℕ) → List ℕ
greater_by None channel = channel
greater_by (Some (Join at begins)) channel =
    if same channel at && is_lt (bytes_cmp channel at) then at else channel
greater_by (Some (Come nick)) channel = channel
greater_by (Some (Rename nick new)) channel = channel
greater_by (Some (Go nick other)) channel = channel
greater_by (Some (Out nick at)) channel = channel
greater_by (Some (Set setting)) channel = channel

abbrev pub spelled_in : List Entry → (channel : List ℕ) → List ℕ
spelled_in [] channel = channel
spelled_in (entry ∷ log) channel = spelled_in log (greater_by entry.change channel)

abbrev pub is_brought : List Entry → (peer : List ℕ) → Bool → Parsed → Bool
is_brought log peer is_held message = is_join_line message
    && ((is_held && is_marked (word_at 0 message))
    || is_some (asked_message log peer is_held message))

abbrev pub brought : List Entry → Parsed → List ℕ → Given
brought log message doer =
    if is_nick doer && is_channel (unmarked (word_at 0 message))
    then Brings doer (spelled_in log (unmarked (word_at 0 message)))
    (is_marked (word_at 0 message))
    else given_with message (Some doer) message.params

abbrev pub given_from : List Entry → (peer : List ℕ) → Bool → Parsed → Option (List ℕ) → Given
given_from log peer is_held message None = set_given log peer message
given_from log peer is_held message (Some doer) =
    if is_brought log peer is_held message then brought log message doer
    else given_if message (Some doer) (words_left log message)

abbrev pub given_by : List Entry → (peer : List ℕ) → Bool → Parsed → Option (List ℕ) → Given
given_by log peer is_held message None = given_if message None (words_left log message)
given_by log peer is_held message (Some doer) =
    given_from log peer is_held message (doer_now log message doer)

-- ---- MODE of a channel

abbrev pub is_nothing : List ModeChange → Bool
is_nothing [] = true
is_nothing (change ∷ changes) = false

-- by what is left of its letters; as it came, where all are as they were
abbrev pub modes_given : Parsed → (doer channel : List ℕ) → LettersLeft → Given
modes_given message doer channel left =
    if left.are_all && is_same_prefix (Some doer) message.prefix then AsItCame
    else (if is_nothing left.changes then LeftOut
    else Changed (record { items = text (mode_parts doer channel left.changes) }))

-- of somebody who is gone, as by the server at the other end
abbrev pub mode_set : (peer channel : List ℕ) → LettersLeft → Given
mode_set peer channel left =
    if is_nothing left.changes then LeftOut
    else Sets (record { items = text (mode_parts peer channel left.changes) })

abbrev pub modes_from : Parsed → (peer channel : List ℕ) → LettersLeft → Option (List ℕ) → Given
modes_from message peer channel left None = mode_set peer channel left
modes_from message peer channel left (Some doer) = modes_given message doer channel left

abbrev pub modes_by : Parsed → (peer channel : List ℕ) → LettersLeft → Option (List ℕ) → Given
modes_by message peer channel left None = given_with message None message.params
modes_by message peer channel left (Some doer) =
    modes_from message peer channel left (doer_now left.log message doer)

-- ---- a NICK

-- Two have one nickname: who has it here, and who comes by this line. Where who has taken it here
-- has it still, the server kills both upon the line; else it is told whom to kill. A log does not
-- tell who was lost with a server: `is_held` is whether somebody who is not behind the link has the
-- nickname that the line brings.
abbrev pub met_given : Bool → Parsed → (nick : List ℕ) → (other : Option (List ℕ)) → Given
met_given is_held message nick None =
    if is_held && (is_none message.prefix && same nick (word_at 0 message)) then AsItCame
    else Kills nick None
met_given is_held message nick (Some other) =
    if is_held && same nick (word_at 0 message)
    then given_with message (Some other) message.params else Kills nick (Some other)

-- by what is left of the change that it tells of
abbrev pub nick_given : Bool → Parsed → Option Change → Given
nick_given is_held message None = LeftOut
nick_given is_held message (Some (Come nick)) = AsItCame
nick_given is_held message (Some (Rename nick new)) =
    given_with message (Some nick) message.params
nick_given is_held message (Some (Go nick other)) = met_given is_held message nick other
nick_given is_held message (Some (Out nick channel)) = LeftOut
nick_given is_held message (Some (Join channel begins)) = LeftOut
nick_given is_held message (Some (Set setting)) = LeftOut

-- ---- any line

-- a NICK of which a word is no nickname is for the server to refuse
abbrev pub other_given : List Entry → (peer : List ℕ) → Bool → Parsed → Given
other_given log peer is_held message =
    if is_nick_line message
    then option_map_or (λ change. nick_given is_held message (through (Some change) log))
    (change_of message) AsItCame
    else given_by log peer is_held message message.prefix

abbrev pub message_given : List Entry → (peer : List ℕ) → Bool → Parsed → Given
message_given log peer is_held message =
    option_map_or (λ (modes : ChannelModes). modes_by message peer modes.channel
    (letters_left modes.channel modes.changes log) message.prefix)
    (channel_modes message) (other_given log peer is_held message)

abbrev pub read_given : List Entry → (peer : List ℕ) → Bool → Result Parsed LineFault → Given
read_given log peer is_held (Ok message) = message_given log peer is_held message
read_given log peer is_held (Err fault) = AsItCame

-- What the server is given for a line: `peer` is the server at the other end, and `is_held` is
-- whether what the line brings is there already. Behind an empty log it is given as it came.
abbrev pub given : List Entry → (peer : List ℕ) → Bool → List ℕ → Given
given [] peer is_held line = AsItCame
given (entry ∷ log) peer is_held line = read_given (entry ∷ log) peer is_held (read_of line)

-- ---- the log behind it

abbrev pub log_after_message : List Entry → Parsed → List Entry
log_after_message log message =
    option_map_or (λ (modes : ChannelModes). (letters_left modes.channel modes.changes log).log)
    (channel_modes message) (log_behind (change_of message) log)

abbrev pub log_after_read : List Entry → Result Parsed LineFault → List Entry
log_after_read log (Ok message) = log_after_message log message
log_after_read log (Err fault) = log

abbrev pub log_after : List Entry → List ℕ → List Entry
log_after log line = log_after_read log (read_of line)

-- what is logged of a line that this end puts out
abbrev pub logged_in : (begins : Bool) → Result Parsed LineFault → List (Option Change)
logged_in begins (Ok message) = logged begins message
logged_in begins (Err fault) = []

abbrev pub logged_of : (begins : Bool) → List ℕ → List (Option Change)
logged_of begins line = logged_in begins (read_of line)
