-- What a program is answered that negotiates capabilities (IRCv3, "Capability Negotiation"): that
-- there are none. The server refuses its line by 421, and before registration by 451; in place of
-- that, with `*` for a nickname that is not there yet, is written
--   CAP LS 302        :a.net CAP al LS :
--   CAP LIST          :a.net CAP al LIST :
--   CAP REQ :a b      :a.net CAP al NAK :a b
--   CAP END           nothing
--   CAP FOO           :a.net 410 al FOO :Invalid CAP command
--   CAP               :a.net 461 al CAP :Not enough parameters
use Rattle.std.specs.Prelude.{ℕ, ◌||◌, Option, Some, None, Result, Ok, Err, List, []}
use Rattle.std.specs.Prelude.{◌∷◌, codes, length, nat_eq, if◌then◌else◌}
use Rattle.irc_line.specs.declared.reading.LineFault.{LineFault}
use Rattle.irc_line.specs.Messages.{Parsed, Written, text}
use Rattle.irc_line.specs.Reading.{read_of}
use Rattle.irc_link_words.specs.Words.{is_command}
use Rattle.irc_server.specs.declared.event.Event.{Event}
use Rattle.irc_server.specs.declared.event.Event.TheVariants.{Connect, Line, Gone, LinkUp, LinkLine}
use Rattle.irc_server.specs.declared.event.Event.TheVariants.{LinkDown}
use Rattle.irc_door.specs.declared.capabilities.CapLine.{CapLine}
use Rattle.irc_routes.specs.declared.programs.Programs.{Programs}
use Rattle.irc_routes.specs.declared.programs.Programs.TheVariants.{Off, On}
use Rattle.irc_door.specs.MessagesOfTheDay.{Told}
use Rattle.irc_door.specs.Turning.{body, from, says, word_at}

-- ---- which line is answered

-- a client's line of this command: its first word, and its second
pub record Asked : Type 0 where
  pub conn : ℕ
  pub word : List ℕ
  pub words : List ℕ

-- what the code's value says
abbrev pub asked_now : CapLine → Asked
asked_now line = record { conn = line.conn; word = line.word.now; words = line.words.now }

abbrev pub asked_by : ℕ → Parsed → Option Asked
asked_by conn message =
    if is_command (codes "CAP") message.command
    then Some (record { conn = conn; word = word_at 0 message; words = word_at 1 message })
    else None

abbrev pub asked_read : ℕ → Result Parsed LineFault → Option Asked
asked_read conn (Ok message) = asked_by conn message
asked_read conn (Err fault) = None

abbrev pub asked_in : Event → Option Asked
asked_in (Line conn line) = asked_read conn (read_of line.items)
asked_in (Connect conn host) = None
asked_in (Gone conn) = None
asked_in (LinkUp link name) = None
asked_in (LinkLine link line) = None
asked_in (LinkDown link) = None

-- only where programs are told what they expect
abbrev pub asked_of : Programs → Event → Option Asked
asked_of Off event = None
asked_of On event = asked_in event

-- ---- in place of which text

abbrev pub refused_from : Parsed → Option (List ℕ) → Option Told
refused_from message None = None
refused_from message (Some sender) =
    if says (codes "421") message || says (codes "451") message
    then Some (record { server = sender; nick = word_at 0 message }) else None

abbrev pub refused_read : Result Parsed LineFault → Option Told
refused_read (Ok message) = refused_from message message.prefix
refused_read (Err fault) = None

-- of a text with its CR LF: whom it refuses a line, if it does
abbrev pub refused_told : List ℕ → Option Told
refused_told line = refused_read (read_of (body line))

-- ---- what is written

abbrev pub cap_reply : Told → (word words : List ℕ) → Written
cap_reply told word words = from told.server (codes "CAP") (told.nick ∷ word ∷ []) (Some words)

abbrev pub cap_fault : Told → (number word words : List ℕ) → Written
cap_fault told number word words = from told.server number (told.nick ∷ word ∷ []) (Some words)

abbrev pub cap_other : Told → (word : List ℕ) → Written
cap_other told word =
    if nat_eq (length word) 0
    then cap_fault told (codes "461") (codes "CAP") (codes "Not enough parameters")
    else cap_fault told (codes "410") word (codes "Invalid CAP command")

-- in which letters a word stands is one
abbrev pub cap_answer : Told → Asked → Written
cap_answer told asked =
    if is_command (codes "LS") asked.word then cap_reply told (codes "LS") []
    else (if is_command (codes "LIST") asked.word then cap_reply told (codes "LIST") []
    else (if is_command (codes "REQ") asked.word then cap_reply told (codes "NAK") asked.words
    else cap_other told asked.word))

abbrev pub cap_answers : Told → Asked → List (List ℕ)
cap_answers told asked =
    if is_command (codes "END") asked.word then [] else text (cap_answer told asked) ∷ []
