-- What goes on as it came (RFC 2813 section 4): what is read of a MODE, a TOPIC or an NJOIN of a
-- server is written again as that line, whatever the room of the writer and whichever servers it
-- knows. So a server needs to keep the line of nothing that it passes on.
--   `:b.net MODE #c +ol BO 5`   goes on with the words that it came with, where to clients it would
--                               be shown with `bo`, as that user is stored
--   `:b.net NJOIN #c :@bo,+cy`  goes on so where both become members, and are spelled as they are
--                               stored; who does not become one is left out
use Rattle.std.specs.Prelude.{◌≡◌, ℕ, true, Some, Ok, List, [], ◌∷◌, codes, map}
use Rattle.std.specs.List.{AllByRecursion}
use Rattle.irc_line.specs.Messages.{Parsed, message_of}
use Rattle.irc_names.specs.Names.{is_server}
use Rattle.irc_room.specs.Room.{Room}
use Rattle.irc_routes.specs.Known.{Known}
use Rattle.irc_link_reader.specs.Reader.{is_behind_link}
use Rattle.irc_link_words.specs.Words.{is_for_channel}
use Rattle.irc_merge.specs.BurstRead.{new_members}
use Rattle.irc_burst_lines.specs.DeedLines.{deed_parts}
use Rattle.irc_burst.specs.DeedsMeant.{Told, a_deed, a_server, deeds_meant, members_of, as_stored}

-- a line of a server
abbrev pub line_from : List ℕ → List ℕ → List (List ℕ) → Parsed
line_from command server params =
    record { prefix = Some server; command = command; params = params }

-- what is told is written as this line
abbrev pub IsWrittenAs : Parsed → Room → Known → Told → Type 0
IsWrittenAs message writer others (a_deed deed) =
    message_of (deed_parts writer others deed) ≡ message
IsWrittenAs message writer others (a_server uplink name distance token info) = ⊥

abbrev pub GoesOn : Room → Known → ℕ → Parsed → Type 0
GoesOn room known link message = (told : List Told) (writer : Room) (others : Known)
    → deeds_meant room known link message ≡ Ok told
    → AllByRecursion (IsWrittenAs message writer others) told

abbrev pub ModesGoOn : Type 0
ModesGoOn = (room : Room) (known : Known) (link : ℕ) (server channel : List ℕ)
    (words : List (List ℕ)) → is_server server ≡ true
    → is_for_channel channel ≡ true
    → GoesOn room known link (line_from (codes "MODE") server (channel ∷ words))

abbrev pub TopicsGoOn : Type 0
TopicsGoOn = (room : Room) (known : Known) (link : ℕ) (server channel topic : List ℕ)
    → is_server server ≡ true
    → GoesOn room known link (line_from (codes "TOPIC") server (channel ∷ topic ∷ []))

abbrev pub MembersGoOn : Type 0
MembersGoOn = (room : Room) (known : Known) (link : ℕ) (server channel text : List ℕ)
    → map (as_stored room) (new_members (is_behind_link known link) room channel (members_of text))
    ≡ members_of text
    → GoesOn room known link (line_from (codes "NJOIN") server (channel ∷ text ∷ []))
