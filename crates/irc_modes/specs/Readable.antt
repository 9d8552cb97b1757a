-- The changes of modes that survive being written and read again. What one server has decided it
-- writes for another, which reads it as a MODE of a client is read; so all has to be left that the
-- limits of one command leave (RFC 2812 section 3.2.3).
use Rattle.std.specs.Prelude.{◌≡◌, ℕ, ◌≤◌, Bool, true, false, not, ◌&&◌, is_some, Option, Some}
use Rattle.std.specs.Prelude.{None, List, [], ◌∷◌, nat_eq, count_by, decimal, IsTrue}
use Rattle.std.specs.List.{list_all}
use Rattle.std.specs.Str.{bytes_eq}
use Rattle.irc_names.specs.Names.{is_nick, is_key, is_ban_mask}
use Rattle.irc_modes.specs.declared.modes.ModeChange.{ModeChange}
use Rattle.irc_modes.specs.declared.modes.ModeLetter.{ModeLetter}
use Rattle.irc_modes.specs.declared.modes.ModeLetter.TheVariants as letter
use Rattle.irc_names.specs.Digits.{number_of}
use Rattle.irc_modes.specs.Modes.{is_nil, is_limit}
use Rattle.irc_modes.specs.Letters.{letter_byte}
use Rattle.irc_modes.specs.Limits.{max_mode_parameters}
use Rattle.irc_modes.specs.ModeWords.{Asked, change, once}

-- a limit in the one spelling that it is written in, without leading zeros
abbrev pub is_written_limit : List ℕ → Bool
is_written_limit digits = is_limit digits && bytes_eq digits (decimal (number_of digits))

-- whether a letter is written with a parameter: k, b, o and v are, and l where it is set
abbrev pub has_parameter : Bool → ModeLetter → Bool
has_parameter plus letter.Key = true
has_parameter plus letter.Limit = plus
has_parameter plus letter.Ban = true
has_parameter plus letter.Operator = true
has_parameter plus letter.Voice = true
has_parameter plus other = false

-- whether a word is a parameter of a letter: a key, a limit, a mask or a nickname
abbrev pub is_parameter : ModeLetter → List ℕ → Bool
is_parameter letter.Key word = is_key word
is_parameter letter.Limit word = is_written_limit word
is_parameter letter.Ban word = is_ban_mask word
is_parameter letter.Operator word = is_nick word
is_parameter letter.Voice word = is_nick word
is_parameter other word = false

-- a letter that has a parameter has one that it can be read with, and another has none
abbrev pub word_fits : Bool → ModeLetter → Option (List ℕ) → Bool
word_fits plus letter None = not (has_parameter plus letter)
word_fits plus letter (Some word) = has_parameter plus letter && is_parameter letter word

-- whether a change has the word that its letter is written with
abbrev pub has_its_word : ModeChange → Bool
has_its_word c = word_fits c.plus c.letter c.word

-- whether a parameter is written for a change
abbrev pub is_worded : ModeChange → Bool
is_worded c = is_some c.word

abbrev pub is_of : ModeLetter → ModeChange → Bool
is_of which c = nat_eq (letter_byte which) (letter_byte c.letter)

-- the letters of which a command has one at most: i m n p s t k l
abbrev pub IsOnce : ModeLetter → Type 0
IsOnce which = IsTrue (once which true)

-- The changes that are read as they are written: there are some, each has the word of its letter,
-- at most three have one, and of each of i m n p s t k l there is one at most, whether it is set or
-- taken away.
pub record AreReadable (changes : List ModeChange) : Type 0 where
  pub filled : is_nil changes ≡ false
  pub worded : list_all has_its_word changes ≡ true
  pub few : count_by is_worded changes ≤ max_mode_parameters
  pub once : (which : ModeLetter) → IsOnce which → count_by (is_of which) changes ≤ 1

-- ---- what a command asks for

-- whether it is a change that is written with a parameter, also where it was asked for without one
abbrev pub asks_parameter : Asked → Bool
asks_parameter (change plus which word) = has_parameter plus which
asks_parameter other = false

abbrev pub asks_of : ModeLetter → Asked → Bool
asks_of which (change plus other word) = nat_eq (letter_byte which) (letter_byte other)
asks_of which other = false

-- of what is asked for at most three changes are written with a parameter, and each of i m n p s t
-- k l is changed once at most
pub record AreFew (items : List Asked) : Type 0 where
  pub few : count_by asks_parameter items ≤ max_mode_parameters
  pub once : (which : ModeLetter) → IsOnce which → count_by (asks_of which) items ≤ 1

-- a change of the same mode as is asked for, with a word of its letter, be it the one that was
-- given or another
pub record IsOneAsked (item : Asked) (made : ModeChange) : Type 0 where
  pub given : Option (List ℕ)
  pub asked : item ≡ change made.plus made.letter given
  pub worded : has_its_word made ≡ true

-- changes that are some of those asked for, in order
pub data AreSomeAsked : List Asked → List ModeChange → Type 0 where
  nothing_left : AreSomeAsked [] []
  one_left_out : {item : Asked} {items : List Asked} {changes : List ModeChange}
      → AreSomeAsked items changes → AreSomeAsked (item ∷ items) changes
  one_made : {item : Asked} {items : List Asked} {made : ModeChange} {changes : List ModeChange}
      → IsOneAsked item made → AreSomeAsked items changes
      → AreSomeAsked (item ∷ items) (made ∷ changes)
