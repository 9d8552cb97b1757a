-- What becomes of a line of a client that is no user yet (IRCv3, "Capability Negotiation": where a
-- client negotiates, its registration is not complete before CAP END). It negotiates once it has
-- asked for a capability by CAP REQ. Behind CAP LS nothing waits, where IRCv3 has it wait: the list
-- is empty, and there are programs in use (Konversation 22.12) that send no END behind an empty
-- one.
--   CAP REQ :sasl      the machine is given it, and from then on USER is held
--   NICK al            the machine is given it
--   USER u 0 * :Al     it is kept
--   CAP END            the machine is given `USER u 0 * :Al` in its place
-- A line with a prefix, and a USER with fewer than four parameters, is the machine's at once.
use Rattle.std.specs.Prelude.{ℕ, Bool, ◌&&◌, is_some, Result, Ok, Err, List, [], codes}
use Rattle.std.specs.Prelude.{get_or, if◌then◌else◌, length, nat_le}
use Rattle.irc_line.specs.declared.reading.LineFault.{LineFault}
use Rattle.irc_line.specs.Messages.{Parsed}
use Rattle.irc_line.specs.Reading.{read_of}
use Rattle.irc_link_words.specs.Words.{is_command}
use Rattle.irc_hold.specs.declared.line.Fate.{Fate}
use Rattle.irc_hold.specs.declared.line.Fate.TheVariants.{Passes, Begins, Keeps, Ends}

-- the first word of a line; no bytes where it has none
abbrev pub first_word : Parsed → List ℕ
first_word message = get_or message.params 0 []

-- CAP with this word, in any case of letters
abbrev pub is_cap : List ℕ → Parsed → Bool
is_cap word message =
    is_command (codes "CAP") message.command && is_command word (first_word message)

-- it asks for capabilities
abbrev pub starts_negotiation : Parsed → Bool
starts_negotiation message = is_cap (codes "REQ") message

-- USER with all that it needs (RFC 2812 section 3.1.3)
abbrev pub is_whole_user : Parsed → Bool
is_whole_user message =
    is_command (codes "USER") message.command && nat_le 4 (length message.params)

abbrev pub fate_behind : (is_held : Bool) → Parsed → Fate
fate_behind is_held message =
    if is_some message.prefix then Passes
    else (if starts_negotiation message then Begins
    else (if is_held && is_cap (codes "END") message then Ends
    else (if is_held && is_whole_user message then Keeps else Passes)))

-- one that cannot be read is the machine's
abbrev pub fate_read : (is_held : Bool) → Result Parsed LineFault → Fate
fate_read is_held (Ok message) = fate_behind is_held message
fate_read is_held (Err fault) = Passes

-- what becomes of a line, by whether USER of its client is held
abbrev pub line_fate : (is_held : Bool) → List ℕ → Fate
line_fate is_held line = fate_read is_held (read_of line)
