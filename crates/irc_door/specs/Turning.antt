-- What programs expect that a server does not say: a text for a client, as it is written to it. A
-- row looks for what stands behind a sender, a number or NICK; nobody but a server says a number. A
-- text that no row names goes as it is, byte for byte.
--   the server says                                what is written
--   :a.net 004 al a.net treeircd-1 i biklmnopstv   the same, and :a.net 005 (`Supported.antt`)
--   :a.net 341 al #c bo                            :a.net 341 al bo #c
--   :al!u@h NICK ally                              :al!u@h NICK :ally
--   :a.net 421 al VERSION :Unknown command         :a.net 351 al treeircd-1 a.net :RFC 2811, ..
--   a text that was cut within a letter            the same without its beginning (`Letters.antt`)
-- 341 has the channel first by RFC 2812 section 5.1, and other servers the nickname. A text may
-- have been cut where its line is 510 bytes long, or it is itself as long as texts are kept: 160
-- bytes, 50 of a real name, which stands in 311, and behind a number in 352.
use Rattle.std.specs.Prelude.{ℕ, ◌-◌, Bool, ◌&&◌, ◌||◌, Option, Some, None, Result, Ok, Err, List}
use Rattle.std.specs.Prelude.{[], ◌∷◌, ◌++◌, codes, get_or, length, nat_eq, nat_le, nat_lt, take}
use Rattle.std.specs.Prelude.{if◌then◌else◌}
use Rattle.std.specs.Str.{bytes_eq}
use Rattle.irc_line.specs.declared.reading.LineFault.{LineFault}
use Rattle.irc_line.specs.Bytes.{crlf, cut}
use Rattle.irc_line.specs.Messages.{Parsed, Written, named, text}
use Rattle.irc_line.specs.Reading.{read_of}
use Rattle.irc_link_words.specs.Words.{is_command}
use Rattle.irc_door.specs.declared.turning.Turned.{Turned}
use Rattle.irc_door.specs.declared.turning.Turned.TheVariants.{AsItIs, Behind, Instead}
use Rattle.irc_door.specs.Letters.{whole_letters}
use Rattle.irc_door.specs.Supported.{supported_parts}

-- a line without its CR LF
abbrev pub body : List ℕ → List ℕ
body line = take (length line - 2) line

-- a word of a line; no bytes where the line has fewer
abbrev pub word_at : ℕ → Parsed → List ℕ
word_at place message = get_or message.params place []

abbrev pub last_word : Parsed → List ℕ
last_word message = word_at (length message.params - 1) message

-- ---- the rows

abbrev pub from : (sender command : List ℕ) → List (List ℕ) → Option (List ℕ) → Written
from sender command middle last =
    record { sender = named sender; command = command; middle = middle; last = last }

abbrev pub invited_by : (sender doer nick channel : List ℕ) → Written
invited_by sender doer nick channel =
    from sender (codes "341") (doer ∷ nick ∷ channel ∷ []) None

abbrev pub invited_parts : (sender : List ℕ) → Parsed → Written
invited_parts sender message =
    invited_by sender (word_at 0 message) (word_at 2 message) (word_at 1 message)

abbrev pub nick_parts : (sender nick : List ℕ) → Written
nick_parts sender nick = from sender (codes "NICK") [] (Some nick)

abbrev pub version_parts : (server nick : List ℕ) → Written
version_parts server nick =
    from server (codes "351") (nick ∷ codes "treeircd-1" ∷ server ∷ [])
    (Some (codes "RFC 2811, 2812 and 2813 in a profile"))

-- in which letters a command stands is one
abbrev pub refused : (sender : List ℕ) → Parsed → Turned
refused sender message =
    if is_command (codes "VERSION") (word_at 1 message)
    then Instead (record { items = text (version_parts sender (word_at 0 message)) }) else AsItIs

-- ---- a text that was cut

-- a number, or NICK
abbrev pub says : (command : List ℕ) → Parsed → Bool
says command message = bytes_eq message.command command

abbrev pub has_name_last : Parsed → Bool
has_name_last message = says (codes "311") message

abbrev pub is_full : List ℕ → Parsed → Bool
is_full line message =
    nat_eq (length line) 510 || (nat_eq (length (last_word message)) 160
    || ((has_name_last message && nat_eq (length (last_word message)) 50)
    || (says (codes "352") message && nat_le 52 (length (last_word message)))))

abbrev pub cut_at_letter : List ℕ → Turned
cut_at_letter line =
    if nat_lt (length (whole_letters line)) (length line)
    then Instead (record { items = cut (whole_letters line) ++ crlf }) else AsItIs

-- ---- any text

abbrev pub turned_by : List ℕ → Parsed → (sender : List ℕ) → Turned
turned_by line message sender =
    if says (codes "004") message
    then Behind (record { items = text (supported_parts sender (word_at 0 message)) })
    else (if says (codes "341") message
    then Instead (record { items = text (invited_parts sender message) })
    else (if says (codes "NICK") message
    then Instead (record { items = text (nick_parts sender (word_at 0 message)) })
    else (if says (codes "421") message then refused sender message
    else (if is_full line message then cut_at_letter line else AsItIs))))

abbrev pub turned_from : List ℕ → Parsed → Option (List ℕ) → Turned
turned_from line message None = AsItIs
turned_from line message (Some sender) = turned_by line message sender

abbrev pub turned_message : List ℕ → Parsed → Turned
turned_message line message = turned_from line message message.prefix

abbrev pub turned_read : List ℕ → Result Parsed LineFault → Turned
turned_read line (Ok message) = turned_message line message
turned_read line (Err fault) = AsItIs

-- of a text with its CR LF
abbrev pub turned : List ℕ → Turned
turned line = turned_read (body line) (read_of (body line))

-- what is written of it
abbrev pub written : List ℕ → Turned → List (List ℕ)
written line AsItIs = line ∷ []
written line (Instead other) = other.items ∷ []
written line (Behind more) = line ∷ more.items ∷ []
