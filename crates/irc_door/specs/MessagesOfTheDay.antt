-- A message of the day: what is written to a client in place of 422 (RFC 2812 section 5.1; the
-- command is that of section 3.4.1), by who says 422 and to whom.
--   the server says                           what is written
--   :a.net 422 al :MOTD File is missing       :a.net 375 al :- a.net Message of the day - (a space)
--                                             :a.net 372 al :- LINE                     (each line)
--                                             :a.net 376 al :End of MOTD command
-- Which texts are messages, and what room these want, is our own choice.
use Rattle.std.specs.Prelude.{◌≡◌, ℕ, ◌+◌, ⊤, Bool, true, false, not, ◌&&◌, ◌||◌, ◌==◌, Option}
use Rattle.std.specs.Prelude.{Some, None, Result, Ok, Err, List, [], ◌∷◌, ◌++◌, codes, length, map}
use Rattle.std.specs.Prelude.{nat_le, string_bytes, sum_by, if◌then◌else◌}
use Rattle.std.specs.List.{list_all}
use Rattle.std.specs.Str.Lines.{lines}
use Rattle.irc_line.specs.declared.reading.LineFault.{LineFault}
use Rattle.irc_line.specs.Messages.{Parsed, Written, text}
use Rattle.irc_line.specs.Reading.{read_of}
use Rattle.irc_door.specs.declared.motd.Motd.{Motd}
use Rattle.irc_door.specs.declared.motd.MotdFault.{MotdFault}
use Rattle.irc_door.specs.declared.motd.MotdFault.TheVariants.{Bad, Memory}
use Rattle.irc_door.specs.declared.telling.Hearer.{Hearer}
use Rattle.irc_door.specs.Turning.{body, from, says, word_at}

-- ---- which texts are messages

-- a line without a NUL and a CR: neither may stand in a line (RFC 2812 section 2.3.1)
abbrev pub may_stand : ℕ → Bool
may_stand byte = not (byte == 0 || byte == 13)

abbrev pub is_told : List ℕ → Bool
is_told = list_all may_stand

-- at most 8,192 bytes, and 100 lines
abbrev pub is_message : List ℕ → Bool
is_message text =
    nat_le (length text) 8192 && (nat_le (length (lines text)) 100 && list_all is_told (lines text))

abbrev pub lines_of : Motd → List (List ℕ)
lines_of motd = map string_bytes motd.lines.items

-- a text is read as a message, or is none, or memory runs out
abbrev pub IsReadMotd : List ℕ → Result Motd MotdFault → Type 0
IsReadMotd text (Ok motd) = (is_message text ≡ true) × (lines_of motd ≡ lines text)
IsReadMotd text (Err Bad) = is_message text ≡ false
IsReadMotd text (Err Memory) = ⊤

-- ---- how much room it wants

-- what stands around a line of the message is at most 105 bytes long: a server's name has 63 of
-- them, a nickname 30, and `: 372  :- ` with CR LF the others
abbrev pub line_room : List ℕ → ℕ
line_room line = 105 + length line

-- what a new user is told beside the lines is less than 2,048 bytes long
abbrev pub has_room : ℕ → List (List ℕ) → Bool
has_room room message = nat_le (2048 + sum_by line_room message) room

-- ---- in place of which text

-- which server says it, and to which nickname
pub record Told : Type 0 where
  pub server : List ℕ
  pub nick : List ℕ

-- what the code's value says
abbrev pub told_of : Hearer → Told
told_of hearer = record { server = hearer.server.now; nick = hearer.nick.now }

abbrev pub missing_from : Parsed → Option (List ℕ) → Option Told
missing_from message None = None
missing_from message (Some sender) =
    if says (codes "422") message
    then Some (record { server = sender; nick = word_at 0 message }) else None

abbrev pub missing_read : Result Parsed LineFault → Option Told
missing_read (Ok message) = missing_from message message.prefix
missing_read (Err fault) = None

-- of a text with its CR LF: to whom it says that there is no message, if it does
abbrev pub missing_told : List ℕ → Option Told
missing_told line = missing_read (read_of (body line))

-- ---- what is written

abbrev pub reply_to : Told → (number : List ℕ) → (last : List ℕ) → Written
reply_to told number last = from told.server number (told.nick ∷ []) (Some last)

abbrev pub beginning : Told → List ℕ
beginning told = text (reply_to told (codes "375")
    (codes "- " ++ (told.server ++ codes " Message of the day - ")))

abbrev pub line_told : Told → List ℕ → List ℕ
line_told told line = text (reply_to told (codes "372") (codes "- " ++ line))

abbrev pub ending : Told → List ℕ
ending told = text (reply_to told (codes "376") (codes "End of MOTD command"))

abbrev pub message_told : Told → List (List ℕ) → List (List ℕ)
message_told told message = beginning told ∷ (map (line_told told) message ++ ending told ∷ [])
