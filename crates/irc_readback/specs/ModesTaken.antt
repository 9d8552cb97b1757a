-- Which changes of a channel's modes a line of a link tells of (RFC 2812 section 3.2.3), and that
-- what is written of changes is read as them.
use Rattle.std.specs.Prelude.{◌≡◌, ◌≢◌, ℕ, true, is_some, Some, Ok, Err, List, [], ◌∷◌, codes, map}
use Rattle.std.specs.List.{list_all}
use Rattle.irc_line.specs.Messages.{Parsed, message_of}
use Rattle.irc_names.specs.Names.{IsNick, IsChannel}
use Rattle.irc_modes.specs.declared.modes.ModeChange.{ModeChange}
use Rattle.irc_modes.specs.ModeLaws.{reworded}
use Rattle.irc_modes.specs.ModeWritten.{changes_written}
use Rattle.irc_modes.specs.Readable.{AreReadable, has_its_word}
use Rattle.irc_room.specs.effect.By.{By}
use Rattle.irc_room.specs.effect.By.TheVariants as by
use Rattle.irc_room.specs.effect.Effect.{Effect}
use Rattle.irc_room.specs.effect.Effect.TheVariants.{ChangeModes}
use Rattle.irc_room.specs.Limits.{IsWithinLimits}
use Rattle.irc_room.specs.Room.{Room}
use Rattle.irc_room.specs.Seen.{changes_words, stored_channel, stored_nick, written_word}
use Rattle.irc_room.specs.Sendable.{AreSentChanges}
use Rattle.irc_routes.specs.Known.{Known}
use Rattle.irc_link_words.specs.declared.fault.WireFault.TheVariants.{Parameters}
use Rattle.irc_link_reader.specs.Means.{read_by}
use Rattle.irc_link_reader.specs.Reader.{Reader, may_come}
use Rattle.irc_link_words.specs.Words.{are_changes, are_members_named, changes_of, is_for_channel}
use Rattle.irc_link_writer.specs.Written.{wire}

-- the line that changes the modes of a channel by these words
abbrev pub mode_message : List ℕ → List ℕ → List (List ℕ) → Parsed
mode_message name channel words =
    record { prefix = Some name; command = codes "MODE"; params = channel ∷ words }

-- ---- a line is taken just where what is read of it is written as it is

-- what these words do to a channel, or nothing
pub data AreTold (channel : List ℕ) (words : List (List ℕ)) : List Effect → Type 0 where
  told : (doer : By) → AreTold channel words (ChangeModes doer channel (changes_of words) ∷ [])
  nothing : AreTold channel words []

-- A line that is taken changes the modes as its words say, or nothing. What is read of its words is
-- written as these words, and each of these keeps the rule of its letter.
pub record IsTakenWhole (channel : List ℕ) (words : List (List ℕ))
    (effects : List Effect) : Type 0 where
  pub taken : are_changes words ≡ true
  pub rewritten : changes_written (changes_of words) ≡ words
  pub named : are_members_named (changes_of words) ≡ true
  pub worded : list_all has_its_word (changes_of words) ≡ true
  pub effects_told : AreTold channel words effects

abbrev pub TakenIsWrittenSo : Type 0
TakenIsWrittenSo = (reader : Reader) (name channel : List ℕ) (words : List (List ℕ))
    (effects : List Effect) → is_for_channel channel ≡ true
    → read_by reader (mode_message name channel words) ≡ Ok effects
    → IsTakenWhole channel words effects

-- A line of which something else would be written than it is, is refused.
abbrev pub OtherwiseWrittenIsRefused : Type 0
OtherwiseWrittenIsRefused = (reader : Reader) (name channel : List ℕ) (words : List (List ℕ))
    → is_for_channel channel ≡ true
    → changes_written (changes_of words) ≢ words
    → read_by reader (mode_message name channel words) ≡ Err Parameters

-- ---- what is written of changes is read as them

-- changes that a user makes, and a reader to which that user and its server are known
pub record AreReadBack (room : Room) (reader : Reader) (nick channel : List ℕ)
    (changes : List ModeChange) : Type 0 where
  -- they can be sent, spelled as the writer has the names stored
  pub sent : AreSentChanges room nick channel changes
  pub nick_named : IsNick nick
  pub channel_named : IsChannel channel
  -- the reader knows the user, and that lines of it come by the link
  pub known_there : is_some (reader.home nick) ≡ true
  pub comes_so : may_come reader nick ≡ true

-- each such change is taken, and read as it is
abbrev pub WrittenChangesAreRead : Type 0
WrittenChangesAreRead = (room : Room) (known : Known) (reader : Reader) (nick channel : List ℕ)
    (changes : List ModeChange)
    → AreReadBack room reader nick channel changes
    → read_by reader (message_of (wire room known (ChangeModes (by.User nick) channel changes)))
    ≡ Ok (ChangeModes (by.User nick) channel changes ∷ [])

-- What was read of words is written as these words, and read again as it was: a server that hands a
-- line on tells the same.
abbrev pub TakenIsReadAgain : Type 0
TakenIsReadAgain = (words : List (List ℕ)) → are_changes words ≡ true
    → (are_changes (changes_written (changes_of words)) ≡ true)
    × (changes_of (changes_written (changes_of words)) ≡ changes_of words)

-- ---- what was taken can be sent on

-- changes with the nicknames in them spelled as a room has them, which is how it writes them
abbrev pub stored_changes : Room → List ModeChange → List ModeChange
stored_changes room changes = map (reworded (written_word room)) changes

-- what the words of a line that was taken say, written by a room
pub record AreSentOn (room : Room) (words : List (List ℕ)) : Type 0 where
  -- the changes keep the limits of one command, and each has a word by the rule of its letter
  pub readable : AreReadable (changes_of words)
  -- what the room writes of them is taken again, and read as these changes
  pub taken : are_changes (changes_words room (changes_of words)) ≡ true
  pub same : changes_of (changes_words room (changes_of words)) ≡ stored_changes room
      (changes_of words)
  pub named : are_members_named (stored_changes room (changes_of words)) ≡ true

-- Whatever its words are, a MODE line that is taken tells of changes that can be written again, and
-- are read as the same.
abbrev pub TakenCanBeSentOn : Type 0
TakenCanBeSentOn = (room : Room) (reader : Reader) (name channel : List ℕ) (words : List (List ℕ))
    (effects : List Effect) → IsWithinLimits room
    → is_for_channel channel ≡ true → read_by reader (mode_message name channel words) ≡ Ok effects
    → AreSentOn room words

-- So a next server, to which the user is known and which is told by the right link, reads of the
-- line that it is sent the same changes, with all names spelled as the room has them.
abbrev pub TakenIsReadByTheNext : Type 0
TakenIsReadByTheNext = (room : Room) (known : Known) (reader next : Reader) (nick channel : List ℕ)
    (words : List (List ℕ)) (effects : List Effect)
    → IsWithinLimits room → IsNick nick → is_for_channel channel ≡ true
    → read_by reader (mode_message nick channel words) ≡ Ok effects
    → is_some (next.home (stored_nick room nick)) ≡ true
    → may_come next (stored_nick room nick) ≡ true
    → read_by next
    (message_of (wire room known (ChangeModes (by.User nick) channel (changes_of words))))
    ≡ Ok (ChangeModes (by.User (stored_nick room nick)) (stored_channel room channel)
    (stored_changes room (changes_of words)) ∷ [])
