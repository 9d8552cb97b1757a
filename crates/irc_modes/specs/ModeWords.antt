-- The words of a MODE of a channel (RFC 2811 section 4, RFC 2812 section 3.2.3): the first has
-- letters, the others are the parameters of those letters. They are read twice. First each letter
-- takes its parameter, whether it will count or not; then the limits of one command drop letters.
use Rattle.std.specs.Prelude.{ℕ, Bool, true, false, not, ◌&&◌, ◌||◌, Option, Some, None, is_some}
use Rattle.std.specs.Prelude.{List, [], ◌∷◌, ◌++◌, drop, nat_eq, nat_lt, count_by, if◌then◌else◌}
use Rattle.std.specs.List.{list_any}
use Rattle.irc_modes.specs.Letters.{letter_byte, plus_byte, minus_byte}
use Rattle.irc_modes.specs.Limits.{max_mode_parameters}
use Rattle.irc_modes.specs.declared.modes.ModeLetter.{ModeLetter}
use Rattle.irc_modes.specs.declared.modes.ModeLetter.TheVariants as letter
use Rattle.irc_modes.specs.declared.mode_words.Asks.{Asks}
use Rattle.irc_modes.specs.declared.mode_words.Asks.TheVariants.{Nothing, Word, WordIfAny}
use Rattle.irc_modes.specs.declared.mode_words.Asks.TheVariants.{WordOrList}

-- what a letter asks for: a change of a mode, the list of the bans, nothing for want of its
-- parameter, nothing since no mode has it
pub data Asked : Type 0 where
  change : (plus : Bool) → ModeLetter → (word : Option (List ℕ)) → Asked
  list : Asked
  no_word : Asked
  unknown : (byte : ℕ) → Asked

-- a letter as it was read: whether it is one of those that take a parameter, whether only the first
-- such letter of a command counts, and what it asks for if it counts
pub record ReadLetter : Type 0 where
  pub byte : ℕ
  pub takes : Bool
  pub once : Bool
  pub asked : Asked

-- the mode that a letter names: one of imntpsklbov
abbrev pub mode_of : ℕ → Option ModeLetter
mode_of byte =
    if nat_eq byte (letter_byte letter.InviteOnly) then Some letter.InviteOnly
    else (if nat_eq byte (letter_byte letter.Moderated) then Some letter.Moderated
    else (if nat_eq byte (letter_byte letter.NoOutside) then Some letter.NoOutside
    else (if nat_eq byte (letter_byte letter.TopicLocked) then Some letter.TopicLocked
    else (if nat_eq byte (letter_byte letter.Private) then Some letter.Private
    else (if nat_eq byte (letter_byte letter.Secret) then Some letter.Secret
    else (if nat_eq byte (letter_byte letter.Key) then Some letter.Key
    else (if nat_eq byte (letter_byte letter.Limit) then Some letter.Limit
    else (if nat_eq byte (letter_byte letter.Ban) then Some letter.Ban
    else (if nat_eq byte (letter_byte letter.Operator) then Some letter.Operator
    else (if nat_eq byte (letter_byte letter.Voice) then Some letter.Voice
    else None))))))))))

-- ---- first, each letter takes its parameter

-- What a letter asks of the parameters that are left, after the sign `+` or another. A key is taken
-- away without naming it too (our own choice), a limit is only taken away so, and a ban without a
-- mask asks for the list (RFC 2811 section 4.3.1).
abbrev pub needs : Bool → ModeLetter → Asks
needs plus letter.Key = if plus then Word else WordIfAny
needs plus letter.Limit = if plus then Word else Nothing
needs plus letter.Ban = WordOrList
needs plus letter.Operator = Word
needs plus letter.Voice = Word
needs plus other = Nothing

-- what a letter asks for, by what it asks of the parameters and the next one, where one is left; a
-- parameter is taken whole
abbrev pub answer : Asks → Bool → ModeLetter → Option (List ℕ) → Asked
answer Nothing plus letter next = change plus letter None
answer Word plus letter (Some word) = change plus letter (Some word)
answer Word plus letter None = no_word
answer WordIfAny plus letter (Some word) = change plus letter (Some word)
answer WordIfAny plus letter None = change plus letter None
answer WordOrList plus letter (Some word) = change plus letter (Some word)
answer WordOrList plus letter None = list

-- whether it is one of the letters that take a parameter: also where there is none, but for a
-- request of the list
abbrev pub takes : Asks → Bool → Bool
takes Nothing has_next = false
takes Word has_next = true
takes WordIfAny has_next = true
takes WordOrList has_next = has_next

-- whether only the first such letter of a command counts: not for bans and members, but for
-- requests of the list
abbrev pub once : ModeLetter → Bool → Bool
once letter.Ban has_next = not has_next
once letter.Operator has_next = false
once letter.Voice has_next = false
once other has_next = true

-- what a mode's letter is read as; any other takes no parameter, and counts each time
abbrev pub reading_of : Bool → ℕ → Option ModeLetter → Option (List ℕ) → ReadLetter
reading_of plus byte None next =
    record { byte = byte; takes = false; once = false; asked = unknown byte }
reading_of plus byte (Some letter) next = record {
  byte = byte;
  takes = takes (needs plus letter) (is_some next);
  once = once letter (is_some next);
  asked = answer (needs plus letter) plus letter next;
}

-- what a letter is read as, before the next parameter
abbrev pub reading : Bool → ℕ → Option (List ℕ) → ReadLetter
reading plus byte next = reading_of plus byte (mode_of byte) next

-- the parameter that stands next, if one is left
abbrev pub next_word : List (List ℕ) → Option (List ℕ)
next_word [] = None
next_word (word ∷ words) = Some word

-- whether a parameter is taken where there is one
abbrev pub asks_for_word : Asks → Bool
asks_for_word Nothing = false
asks_for_word other = true

-- the same of a letter with its sign; what is no mode's takes none
abbrev pub letter_asks : Bool → Option ModeLetter → Bool
letter_asks plus None = false
letter_asks plus (Some letter) = asks_for_word (needs plus letter)

-- the parameters that a letter leaves
abbrev pub words_after : Bool → ℕ → List (List ℕ) → List (List ℕ)
words_after plus byte words = if letter_asks plus (mode_of byte) then drop 1 words else words

-- `+` and `-` set the sign for the letters after them
abbrev pub is_sign : ℕ → Bool
is_sign byte = nat_eq byte plus_byte || nat_eq byte minus_byte

-- the letters in turn, from a sign on
abbrev pub letters_read : Bool → List ℕ → List (List ℕ) → List ReadLetter
letters_read plus [] words = []
letters_read plus (byte ∷ letters) words =
    if is_sign byte then letters_read (nat_eq byte plus_byte) letters words
    else reading plus byte (next_word words) ∷ letters_read plus letters
    (words_after plus byte words)

-- ---- then the limits drop letters

-- whether it is of this letter, and only the first such letter counts
abbrev pub is_once_with : ℕ → ReadLetter → Bool
is_once_with byte reading = reading.once && nat_eq byte reading.byte

-- Whether a letter counts after those that were written before it, whether they counted or not. Of
-- the letters that take a parameter the first three do (RFC 2812 section 3.2.3), and of those that
-- count once the first (our own choice).
abbrev pub counts : List ReadLetter → ReadLetter → Bool
counts earlier reading =
    (not reading.takes || nat_lt (count_by (λ r. r.takes) earlier) max_mode_parameters)
    && not (reading.once && list_any (is_once_with reading.byte) earlier)

-- what comes of the letters that count, after some that were written before them
abbrev pub counted : List ReadLetter → List ReadLetter → List Asked
counted earlier [] = []
counted earlier (reading ∷ later) =
    (if counts earlier reading then reading.asked ∷ [] else [])
    ++ counted (earlier ++ reading ∷ []) later

-- what the words of a MODE ask for, in the order of its letters; the first sign is `+`
abbrev pub modes_read : List (List ℕ) → List Asked
modes_read [] = []
modes_read (letters ∷ words) = counted [] (letters_read true letters words)
