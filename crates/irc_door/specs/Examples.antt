-- Texts for clients, and what is written: the examples of `Turning.antt`, `Letters.antt`,
-- `MessagesOfTheDay.antt` and `Capabilities.antt`.
use Rattle.std.specs.Prelude.{◌≡◌, ℕ, true, false, Option, None, List, [], ◌∷◌, ◌++◌, codes}
use Rattle.std.specs.Prelude.{length}
use Rattle.std.specs.Str.Lines.{lines}
use Rattle.irc_line.specs.Bytes.{crlf}
use Rattle.irc_line.specs.Reading.{read_of}
use Rattle.irc_numerics.specs.declared.replies.Reply.TheVariants.{MyInfo}
use Rattle.irc_numerics.specs.Replies.{bare, table}
use Rattle.irc_routes.specs.declared.programs.Programs.TheVariants.{Off, On}
use Rattle.irc_door.specs.Letters.{whole_letters}
use Rattle.irc_door.specs.Capabilities.{asked_read, Asked}
use Rattle.irc_door.specs.Manners.{written_or_told, written_to}
use Rattle.irc_door.specs.MessagesOfTheDay.{has_room, is_message, missing_told}
use Rattle.irc_door.specs.Supported.{supported_parts}
use Rattle.irc_door.specs.Turning.{turned, written}

abbrev pub said_of : List ℕ → List (List ℕ)
said_of line = written (line ++ crlf) (turned (line ++ crlf))

pub record RowsAreTurned : Type 0 where
  pub supported : said_of (codes ":a.net 004 al a.net treeircd-1 i biklmnopstv")
      ≡ (codes ":a.net 004 al a.net treeircd-1 i biklmnopstv" ++ crlf)
      ∷ (codes ":a.net 005 al CASEMAPPING=rfc1459 CHANTYPES=# PREFIX=(ov)@+"
      ++ codes " CHANMODES=b,k,l,imnpst MODES=3 NICKLEN=30 CHANNELLEN=50 TOPICLEN=160"
      ++ codes " KICKLEN=160 AWAYLEN=160 MAXLIST=b:30 CHANLIMIT=#:10"
      ++ codes " TARGMAX=JOIN:,PART:,KICK:,LIST:,WHOIS:,PRIVMSG:4,NOTICE:4"
      ++ codes " :are supported by this server"
      ++ crlf) ∷ []
  pub invited : said_of (codes ":a.net 341 al #c bo") ≡ (codes ":a.net 341 al bo #c" ++ crlf) ∷ []
  pub nick : said_of (codes ":al!u@h NICK ally") ≡ (codes ":al!u@h NICK :ally" ++ crlf) ∷ []
  pub version : said_of (codes ":a.net 421 al version :Unknown command")
      ≡ (codes ":a.net 351 al treeircd-1 a.net :RFC 2811, 2812 and 2813 in a profile" ++ crlf) ∷ []

-- a text that no row names goes as it is, whatever it says
pub record OthersGo : Type 0 where
  pub command : said_of (codes ":a.net 421 al FOO :Unknown command")
      ≡ (codes ":a.net 421 al FOO :Unknown command" ++ crlf) ∷ []
  pub text : said_of (codes ":al!u@h PRIVMSG bo :341 al #c bo")
      ≡ (codes ":al!u@h PRIVMSG bo :341 al #c bo" ++ crlf) ∷ []
  pub ending : said_of (codes "ERROR :Closing link (bye)")
      ≡ (codes "ERROR :Closing link (bye)" ++ crlf) ∷ []

-- letters of two, of three and of four bytes, and what is no UTF-8
pub record LettersAreWhole : Type 0 where
  pub two : whole_letters (0xD0 ∷ 0xBF ∷ 0xD1 ∷ []) ≡ 0xD0 ∷ 0xBF ∷ []
  pub three : whole_letters (0x61 ∷ 0xE2 ∷ 0x82 ∷ []) ≡ 0x61 ∷ []
  pub four : whole_letters (0x61 ∷ 0xF0 ∷ 0x9F ∷ 0x98 ∷ []) ≡ 0x61 ∷ []
  pub whole : whole_letters (0xD0 ∷ 0xBF ∷ []) ≡ 0xD0 ∷ 0xBF ∷ []
  pub other : whole_letters (0x61 ∷ 0xE9 ∷ 0x62 ∷ 0xD1 ∷ []) ≡ 0x61 ∷ 0xE9 ∷ 0x62 ∷ 0xD1 ∷ []

-- 005 has a nickname, 13 words and the last parameter: 15, the most that a line may have (RFC 2812
-- section 2.3.1)
abbrev pub SupportedFits : Type 0
SupportedFits = (server nick : List ℕ) → length (supported_parts server nick).middle ≡ 14

-- 351 has the version that 004 has
abbrev pub VersionIsOne : Type 0
VersionIsOne = (server : List ℕ) → table (MyInfo server)
    ≡ bare 004 (server ∷ codes "treeircd-1" ∷ codes "i" ∷ codes "biklmnopstv" ∷ [])

-- of a door with a message
abbrev pub told_with : (message : List (List ℕ)) → List ℕ → List (List ℕ)
told_with message line =
    written_or_told Off (line ++ crlf) message (missing_told (line ++ crlf))

pub record MessagesAreTold : Type 0 where
  pub two_lines : told_with (codes "Hello" ∷ codes "" ∷ [])
      (codes ":a.net 422 al :MOTD File is missing")
      ≡ (codes ":a.net 375 al :- a.net Message of the day - " ++ crlf)
      ∷ (codes ":a.net 372 al :- Hello" ++ crlf) ∷ (codes ":a.net 372 al :- " ++ crlf)
      ∷ (codes ":a.net 376 al :End of MOTD command" ++ crlf) ∷ []
  pub no_line : told_with [] (codes ":a.net 422 al :MOTD File is missing")
      ≡ (codes ":a.net 375 al :- a.net Message of the day - " ++ crlf)
      ∷ (codes ":a.net 376 al :End of MOTD command" ++ crlf) ∷ []
  pub in_a_text : told_with [] (codes ":al!u@h PRIVMSG bo ::a.net 422 al :MOTD File is missing")
      ≡ (codes ":al!u@h PRIVMSG bo ::a.net 422 al :MOTD File is missing" ++ crlf) ∷ []
  pub turned_too : written_or_told On (codes ":a.net 341 al #c bo" ++ crlf) []
      (missing_told (codes ":a.net 341 al #c bo" ++ crlf))
      ≡ (codes ":a.net 341 al bo #c" ++ crlf) ∷ []

-- a CR before a line feed belongs to the end of the line, and no other may stand
pub record TextsAreMessages : Type 0 where
  pub nothing : is_message [] ≡ true
  pub two_lines : lines (codes "Hello" ++ crlf ++ (10 ∷ [])) ≡ codes "Hello" ∷ [] ∷ []
  pub ended : is_message (codes "Hello" ++ crlf) ≡ true
  pub inside : is_message (codes "He" ++ (13 ∷ codes "llo")) ≡ false
  pub last : is_message (codes "Hello" ++ (13 ∷ [])) ≡ false
  pub nul : is_message (0 ∷ []) ≡ false
  pub room : has_room 2259 (codes "Hi" ∷ [] ∷ []) ≡ false
  pub just_room : has_room 2260 (codes "Hi" ∷ [] ∷ []) ≡ true

-- client 1 of a door as programs expect it is answered
abbrev pub answered_to : Option Asked → List ℕ → List (List ℕ)
answered_to asked line =
    written_to (record { programs = On; motd = None }) asked 1 (line ++ crlf)

abbrev pub at_hand : (conn : ℕ) → List ℕ → Option Asked
at_hand conn line = asked_read conn (read_of line)

-- before registration, and behind it
abbrev pub unregistered : List ℕ
unregistered = codes ":a.net 451 * :You have not registered"

abbrev pub unknown : List ℕ
unknown = codes ":a.net 421 al CAP :Unknown command"

pub record CapabilitiesAreNone : Type 0 where
  pub lists : answered_to (at_hand 1 (codes "CAP LS 302")) unregistered
      ≡ (codes ":a.net CAP * LS :" ++ crlf) ∷ []
  pub lists_set : answered_to (at_hand 1 (codes "cap list")) unknown
      ≡ (codes ":a.net CAP al LIST :" ++ crlf) ∷ []
  pub takes_none : answered_to (at_hand 1 (codes "CAP REQ :a b")) unregistered
      ≡ (codes ":a.net CAP * NAK :a b" ++ crlf) ∷ []
  pub ends : answered_to (at_hand 1 (codes "CAP END")) unregistered ≡ []
  pub other : answered_to (at_hand 1 (codes "CAP FOO")) unknown
      ≡ (codes ":a.net 410 al FOO :Invalid CAP command" ++ crlf) ∷ []
  pub alone : answered_to (at_hand 1 (codes "CAP")) unknown
      ≡ (codes ":a.net 461 al CAP :Not enough parameters" ++ crlf) ∷ []
  pub of_another : answered_to (at_hand 2 (codes "CAP LS")) unregistered
      ≡ (unregistered ++ crlf) ∷ []
  pub not_refused : answered_to (at_hand 1 (codes "CAP LS")) (codes ":al!u@h PRIVMSG al :421")
      ≡ (codes ":al!u@h PRIVMSG al :421" ++ crlf) ∷ []
  pub another_line : answered_to (at_hand 1 (codes "JOIN #c")) unregistered
      ≡ (unregistered ++ crlf) ∷ []
