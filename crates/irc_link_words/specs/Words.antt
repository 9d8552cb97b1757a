-- The words of the lines of a link (RFC 2813 section 4).
use Rattle.std.specs.Prelude.{ℕ, ◌-◌, Bool, true, false, not, ◌&&◌, ◌||◌, Option, Some, None}
use Rattle.std.specs.Prelude.{Result, Ok, Err, List, [], ◌∷◌, ◌++◌, codes, length, take, drop, map}
use Rattle.std.specs.Prelude.{nat_eq, if◌then◌else◌}
use Rattle.std.specs.List.{list_all, filter_map}
use Rattle.std.specs.Char.{to_ascii_lowercase}
use Rattle.std.specs.Cmp.Lexicographic.{pointwise}
use Rattle.std.specs.Str.{bytes_eq}
use Rattle.arrayvec.specs.ArrayVec.{ArrayVec}
use Rattle.irc_batch.specs.declared.close_reason.CloseReason.{CloseReason}
use Rattle.irc_batch.specs.declared.close_reason.CloseReason.TheVariants.{BadName}
use Rattle.irc_line.specs.Bytes.{is_space}
use Rattle.irc_names.specs.Names.{fits, is_channel, is_nick, starts_without_colon}
use Rattle.irc_names.specs.UserTexts.{is_user_byte}
use Rattle.irc_names.specs.Limits.{max_user_name, max_words}
use Rattle.irc_modes.specs.Letters.{names_member}
use Rattle.irc_modes.specs.declared.modes.ModeChange.{ModeChange}
use Rattle.irc_modes.specs.Limits.{max_mode_word}
use Rattle.irc_modes.specs.Modes.{is_nil}
use Rattle.irc_modes.specs.ModeWords.{Asked, change, list, no_word, unknown, modes_read}
use Rattle.irc_modes.specs.ModeWritten.{changes_written}
use Rattle.irc_modes.specs.Readable.{has_its_word, is_worded}
use Rattle.irc_room.specs.effect.Target.{Target}
use Rattle.irc_room.specs.effect.Target.TheVariants as target

-- whether a word is a command, in any case of letters
abbrev pub is_command : List ℕ → List ℕ → Bool
is_command command word = bytes_eq (map to_ascii_lowercase word) (map to_ascii_lowercase command)

-- ---- modes of a user

-- the words of a MODE that set mode i and take it away
abbrev pub with_i : List ℕ
with_i = codes "+i"

abbrev pub without_i : List ℕ
without_i = codes "-i"

-- the words of a MODE that say that a user is away, and that it is back (RFC 2812 sections 3.1.5
-- and 4.1; on links alone, which is our own choice)
abbrev pub with_a : List ℕ
with_a = codes "+a"

abbrev pub without_a : List ℕ
without_a = codes "-a"

-- what a user comes without mode i with
abbrev pub no_mode : List ℕ
no_mode = codes "+"

-- what says which modes a user comes with
abbrev pub is_come_mode : List ℕ → Bool
is_come_mode word = bytes_eq word with_i || bytes_eq word no_mode

-- ---- the channel of a JOIN

-- what stands behind the name for one that becomes an operator: the byte 7 and `o` (RFC 2813
-- section 4.2.1)
abbrev pub op_mark : List ℕ
op_mark = 7 ∷ codes "o"

-- the channel as a JOIN writes it, by whether the user becomes an operator
abbrev pub marked : List ℕ → Bool → List ℕ
marked channel op = if op then channel ++ op_mark else channel

-- whether such a word says that the user becomes an operator
abbrev pub is_marked : List ℕ → Bool
is_marked word = bytes_eq (drop (length word - length op_mark) word) op_mark

-- the channel's name, whether the word says so or not
abbrev pub unmarked : List ℕ → List ℕ
unmarked word = if is_marked word then take (length word - length op_mark) word else word

-- ---- whom a text is for

-- whether a word stands in the place of a channel's name: it begins with `#`
abbrev pub is_for_channel : List ℕ → Bool
is_for_channel [] = false
is_for_channel (first ∷ rest) = nat_eq first 0x23

-- a word that does not stand for a channel stands for a user
abbrev pub target_of : List ℕ → Target
target_of word = if is_for_channel word then target.Channel word else target.User word

-- whom a text is for, or that no name is read
abbrev pub target_or_fault : List ℕ → Result Target CloseReason
target_or_fault word =
    if is_for_channel word then (if is_channel word then Ok (target.Channel word) else Err BadName)
    else (if is_nick word then Ok (target.User word) else Err BadName)

-- ---- texts

-- a text that can be a topic, or the text of a quit, a part or a kick
abbrev pub are_words : List ℕ → Bool
are_words text = fits max_words text

-- the text of a PRIVMSG or a NOTICE, as the code keeps it
abbrev pub as_text : List ℕ → ArrayVec ℕ
as_text bytes = record { items = bytes }

-- ---- a user name

-- whether a word may stand in the place of a user name: one that no server has to cut or clean
abbrev pub is_user_name : List ℕ → Bool
is_user_name word = not (is_nil word) && list_all is_user_byte word && fits max_user_name word

-- ---- changes of modes

-- the change that a letter asks for; none where it asks for the list, lacks a word or is unknown
abbrev pub made : Asked → Option ModeChange
made (change plus letter word) = Some (record { plus = plus; letter = letter; word = word })
made list = None
made no_word = None
made (unknown byte) = None

-- the changes that words ask for, in order
abbrev pub changes_of : List (List ℕ) → List ModeChange
changes_of words = filter_map made (modes_read words)

-- the parameters of changes, in order
abbrev pub parameters : List ModeChange → List (List ℕ)
parameters changes = filter_map (λ (c : ModeChange). c.word) changes

-- whether a word can stand behind the letters, and be read as one word wherever it stands
abbrev pub is_mode_word : List ℕ → Bool
is_mode_word word =
    starts_without_colon word && list_all (λ b. not (is_space b)) word && fits max_mode_word word

-- Whether a change has a word where its letter takes one, and that is a key, a limit from 1 on
-- without leading zeros, or the mask of a ban, as the letter wants it. Of o and v it is asked here
-- only that there is a word.
abbrev pub keeps_word : ModeChange → Bool
keeps_word c = if names_member c.letter then is_worded c else has_its_word c

-- whether the word of a change is a nickname, if its letter is o or v
abbrev pub names_nick : ModeChange → Bool
names_nick c = if names_member c.letter then has_its_word c else true

abbrev pub are_members_named : List ModeChange → Bool
are_members_named changes = list_all names_nick changes

-- Whether words are what some changes are written as: the words of the changes that are read of
-- them keep the rules of their letters, and these changes are written as these words.
abbrev pub are_changes : List (List ℕ) → Bool
are_changes words =
    list_all is_mode_word words && (list_all keeps_word (changes_of words)
    && pointwise bytes_eq (changes_written (changes_of words)) words)

-- the changes that words of a MODE tell of
abbrev pub told_changes : List (List ℕ) → Option (List ModeChange)
told_changes words = if are_changes words then Some (changes_of words) else None
