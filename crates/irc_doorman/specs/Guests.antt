-- What a doorman knows of a client, by what that has said.
--
-- Where a password is asked for, the last PASS before the first NICK or USER has to have it (RFC
-- 2812 section 3.1.1):
--   PASS wrong      nothing
--   PASS right      nothing
--   NICK al         the server is given it, and all that follows
-- and of another client:
--   PASS wrong      nothing
--   NICK al         464, and the client is turned away: the server is told that it is gone
-- A PASS without a word is answered by 461, and changes nothing.
use Rattle.std.specs.Prelude.{ℕ, Bool, true, false, not, ◌&&◌, ◌||◌, Option, is_some}
use Rattle.std.specs.Prelude.{Result, Ok, Err, List, [], ◌∷◌, codes, length, nat_eq, nat_lt}
use Rattle.std.specs.Prelude.{if◌then◌else◌}
use Rattle.std.specs.Option.{option_map_or}
use Rattle.std.specs.Str.{bytes_eq}
use Rattle.irc_line.specs.declared.reading.LineFault.{LineFault}
use Rattle.irc_line.specs.Messages.{Parsed}
use Rattle.irc_line.specs.Reading.{read_of}
use Rattle.irc_link_words.specs.Words.{is_command}
use Rattle.irc_moments.specs.Moments.{later}
use Rattle.irc_doorman.specs.declared.asks.Asks.{Asks}
use Rattle.irc_doorman.specs.declared.guest.Standing.{Standing}
use Rattle.irc_doorman.specs.declared.guest.Standing.TheVariants.{Free, Asked, Given}
use Rattle.irc_doorman.specs.declared.guest.Fate.{Fate}
use Rattle.irc_doorman.specs.declared.guest.Fate.TheVariants.{Passes, LacksWord, TurnedAway}
use Rattle.irc_doorman.specs.declared.guest.Guest.{Guest}

-- whether anything is asked of clients
abbrev pub asks_anything : Asks → Bool
asks_anything asks = is_some asks.password || is_some asks.ping_after

-- whether a word is the password that is asked for; any is, where none is
abbrev pub is_right : Option (List ℕ) → List ℕ → Bool
is_right password word = option_map_or (bytes_eq word) password true

-- ---- the password

-- a line is NICK or USER, in any case of letters, whatever stands before and behind it
abbrev pub begins_registration : Parsed → Bool
begins_registration message =
    is_command (codes "NICK") message.command || is_command (codes "USER") message.command

-- behind a PASS with these words
abbrev pub standing_given : Asks → List (List ℕ) → Standing → Standing
standing_given asks [] standing = standing
standing_given asks (word ∷ more) standing = if is_right asks.password word then Given else Asked

abbrev pub password_behind : Asks → Parsed → Standing → Standing
password_behind asks message standing = standing_given asks message.params standing

-- behind a line of who is asked for a password
abbrev pub standing_behind : Asks → Parsed → Standing → Standing
standing_behind asks message standing =
    if is_command (codes "PASS") message.command then password_behind asks message standing
    else (if begins_registration message then Free else standing)

abbrev pub standing_read : Asks → Result Parsed LineFault → Standing → Standing
standing_read asks (Ok message) standing = standing_behind asks message standing
standing_read asks (Err fault) standing = standing

abbrev pub standing_after : Asks → List ℕ → Standing → Standing
standing_after asks line Free = Free
standing_after asks line Asked = standing_read asks (read_of line) Asked
standing_after asks line Given = standing_read asks (read_of line) Given

abbrev pub lacks_password : Standing → Bool
lacks_password Asked = true
lacks_password Given = false
lacks_password Free = false

-- what becomes of a line of who is asked for a password
abbrev pub fate_behind : Parsed → Standing → Fate
fate_behind message standing =
    if is_command (codes "PASS") message.command && nat_eq (length message.params) 0
    then LacksWord
    else (if begins_registration message && lacks_password standing then TurnedAway else Passes)

abbrev pub fate_read : Result Parsed LineFault → Standing → Fate
fate_read (Ok message) standing = fate_behind message standing
fate_read (Err fault) standing = Passes

-- what becomes of a line
abbrev pub fate_of : List ℕ → Standing → Fate
fate_of line Free = Passes
fate_of line Asked = fate_read (read_of line) Asked
fate_of line Given = fate_read (read_of line) Given

-- ---- a client

-- one that comes at a moment
abbrev pub new_guest : Asks → ℕ → Guest
new_guest asks moment = record {
  standing = if is_some asks.password then Asked else Free;
  since = moment;
  is_asked = false;
}

-- one that has said a line at a moment
abbrev pub guest_hearing : Asks → List ℕ → ℕ → Guest → Guest
guest_hearing asks line moment guest =
    record { standing = standing_after asks line guest.standing; since = moment; is_asked = false }

-- one that is asked at a moment whether it is there
abbrev pub guest_asked : ℕ → Guest → Guest
guest_asked moment guest = record guest { since = moment; is_asked = true }

-- whether it has said nothing for so many milliseconds, since its last line or since it was asked
abbrev pub is_silent : ℕ → ℕ → Guest → Bool
is_silent silence moment guest = not (nat_lt moment (later guest.since silence))
