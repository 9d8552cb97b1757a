-- One letter of a MODE: what a change is read as once it is written, and what is known of any
-- letter that is read.
use Rattle.std.proofs.Common.{◌≡◌, ℕ, Bool, true, false, cond, Option, Some, None, is_some, List}
use Rattle.std.proofs.Common.{nat_eq, refl, sym, ap, ◌∙◌}
use Rattle.std.proofs.lemmas.Bool.{eqb-true}
use Rattle.std.specs.List.{cons_option}
use Rattle.std.specs.Option.{unwrap_or}
use Rattle.irc_modes.specs.declared.modes.ModeLetter.{ModeLetter}
use Rattle.irc_modes.specs.declared.modes.ModeLetter.TheVariants as letter
use Rattle.irc_modes.specs.declared.mode_words.Asks.{Asks}
use Rattle.irc_modes.specs.declared.mode_words.Asks.TheVariants.{Nothing, Word, WordIfAny}
use Rattle.irc_modes.specs.declared.mode_words.Asks.TheVariants.{WordOrList}
use Rattle.irc_modes.specs.Letters.{letter_byte}
use Rattle.irc_modes.specs.ModeWords.{change, ReadLetter, mode_of, needs, answer, takes, once}
use Rattle.irc_modes.specs.ModeWords.{reading, reading_of, next_word, words_after, is_sign}
use Rattle.irc_modes.specs.Readable.{has_parameter, word_fits, asks_parameter, asks_of, IsOnce}

-- ---- a letter that is written

pub letter_named : (which : ModeLetter) → mode_of (letter_byte which) ≡ Some which
letter_named letter.InviteOnly = refl
letter_named letter.Moderated = refl
letter_named letter.NoOutside = refl
letter_named letter.TopicLocked = refl
letter_named letter.Private = refl
letter_named letter.Secret = refl
letter_named letter.Key = refl
letter_named letter.Limit = refl
letter_named letter.Ban = refl
letter_named letter.Operator = refl
letter_named letter.Voice = refl

pub letter_no_sign : (which : ModeLetter) → is_sign (letter_byte which) ≡ false
letter_no_sign letter.InviteOnly = refl
letter_no_sign letter.Moderated = refl
letter_no_sign letter.NoOutside = refl
letter_no_sign letter.TopicLocked = refl
letter_no_sign letter.Private = refl
letter_no_sign letter.Secret = refl
letter_no_sign letter.Key = refl
letter_no_sign letter.Limit = refl
letter_no_sign letter.Ban = refl
letter_no_sign letter.Operator = refl
letter_no_sign letter.Voice = refl

-- what a change is read as
abbrev pub read_with : Bool → ModeLetter → Option (List ℕ) → ReadLetter
read_with plus which word = record {
  byte = letter_byte which;
  takes = is_some word;
  once = once which true;
  asked = change plus which word;
}

-- a letter in front of its own word, and of the words of later letters: it takes its own, and
-- leaves theirs
pub record IsReadBack (plus : Bool) (which : ModeLetter) (word : Option (List ℕ))
    (more : List (List ℕ)) : Type 0 where
  pub reads : reading plus (letter_byte which) (next_word (cons_option word more))
      ≡ read_with plus which word
  pub leaves : words_after plus (letter_byte which) (cons_option word more) ≡ more

pub read_back : (plus : Bool) (which : ModeLetter) (word : Option (List ℕ)) (more : List (List ℕ))
    → word_fits plus which word ≡ true → IsReadBack plus which word more
read_back plus letter.InviteOnly None more fits = record { reads = refl; leaves = refl }
read_back plus letter.Moderated None more fits = record { reads = refl; leaves = refl }
read_back plus letter.NoOutside None more fits = record { reads = refl; leaves = refl }
read_back plus letter.TopicLocked None more fits = record { reads = refl; leaves = refl }
read_back plus letter.Private None more fits = record { reads = refl; leaves = refl }
read_back plus letter.Secret None more fits = record { reads = refl; leaves = refl }
read_back plus letter.Key None more fits = cc
read_back true letter.Limit None more fits = cc
read_back false letter.Limit None more fits = record { reads = refl; leaves = refl }
read_back plus letter.Ban None more fits = cc
read_back plus letter.Operator None more fits = cc
read_back plus letter.Voice None more fits = cc
read_back plus letter.InviteOnly (Some word) more fits = cc
read_back plus letter.Moderated (Some word) more fits = cc
read_back plus letter.NoOutside (Some word) more fits = cc
read_back plus letter.TopicLocked (Some word) more fits = cc
read_back plus letter.Private (Some word) more fits = cc
read_back plus letter.Secret (Some word) more fits = cc
read_back true letter.Key (Some word) more fits = record { reads = refl; leaves = refl }
read_back false letter.Key (Some word) more fits = record { reads = refl; leaves = refl }
read_back true letter.Limit (Some word) more fits = record { reads = refl; leaves = refl }
read_back false letter.Limit (Some word) more fits = cc
read_back plus letter.Ban (Some word) more fits = record { reads = refl; leaves = refl }
read_back plus letter.Operator (Some word) more fits = record { reads = refl; leaves = refl }
read_back plus letter.Voice (Some word) more fits = record { reads = refl; leaves = refl }

-- ---- any letter that is read

-- the byte of a letter names no other letter
named_by : (byte : ℕ) (which other : ModeLetter) (rest : Option ModeLetter)
    → (rest ≡ Some which → letter_byte which ≡ byte) → cond (nat_eq byte (letter_byte other))
    (Some other) rest ≡ Some which → letter_byte which ≡ byte
named_by byte which other rest later = by (nat_eq byte (letter_byte other)) refl
  where
    same : Some other ≡ Some which → other ≡ which
    same e = ap (λ o. unwrap_or o other) e

    by : (test : Bool) → nat_eq byte (letter_byte other) ≡ test
        → cond test (Some other) rest ≡ Some which → letter_byte which ≡ byte
    by true is e = ap letter_byte (sym (same e)) ∙ sym (eqb-true byte (letter_byte other) is)
    by false is e = later e

pub byte_named : (byte : ℕ) (which : ModeLetter) → mode_of byte ≡ Some which
    → letter_byte which ≡ byte
byte_named byte which =
    named_by byte which letter.InviteOnly _
    (named_by byte which letter.Moderated _
    (named_by byte which letter.NoOutside _
    (named_by byte which letter.TopicLocked _
    (named_by byte which letter.Private _
    (named_by byte which letter.Secret _
    (named_by byte which letter.Key _
    (named_by byte which letter.Limit _
    (named_by byte which letter.Ban _
    (named_by byte which letter.Operator _
    (named_by byte which letter.Voice None (λ e. cc)))))))))))

-- two letters with one byte are one
same_letter : (which other : ModeLetter) → nat_eq (letter_byte which) (letter_byte other) ≡ true
    → which ≡ other
same_letter which other is =
    ap (λ o. unwrap_or o which) (sym (letter_named which)
    ∙ ap mode_of (eqb-true (letter_byte which) (letter_byte other) is) ∙ letter_named other)

once_always : (which : ModeLetter) (has_next : Bool) → IsOnce which → once which has_next ≡ true
once_always letter.InviteOnly has_next h = refl
once_always letter.Moderated has_next h = refl
once_always letter.NoOutside has_next h = refl
once_always letter.TopicLocked has_next h = refl
once_always letter.Private has_next h = refl
once_always letter.Secret has_next h = refl
once_always letter.Key has_next h = refl
once_always letter.Limit has_next h = refl
once_always letter.Ban has_next h = cc
once_always letter.Operator has_next h = cc
once_always letter.Voice has_next h = cc

needs_none : (plus : Bool) (which : ModeLetter) → needs plus which ≡ Nothing
    → has_parameter plus which ≡ false
needs_none plus letter.InviteOnly e = refl
needs_none plus letter.Moderated e = refl
needs_none plus letter.NoOutside e = refl
needs_none plus letter.TopicLocked e = refl
needs_none plus letter.Private e = refl
needs_none plus letter.Secret e = refl
needs_none true letter.Key e = cc
needs_none false letter.Key e = cc
needs_none true letter.Limit e = cc
needs_none false letter.Limit e = refl
needs_none plus letter.Ban e = cc
needs_none plus letter.Operator e = cc
needs_none plus letter.Voice e = cc

-- what asks for a change with a parameter is one of the letters that take one
answer_takes : (asks : Asks) (plus : Bool) (which : ModeLetter) (next : Option (List ℕ))
    → (asks ≡ Nothing → has_parameter plus which ≡ false)
    → asks_parameter (answer asks plus which next) ≡ true → takes asks (is_some next) ≡ true
answer_takes Nothing plus which next bare h = let clash = bare refl in cc
answer_takes Word plus which next bare h = refl
answer_takes WordIfAny plus which next bare h = refl
answer_takes WordOrList plus which (Some word) bare h = refl
answer_takes WordOrList plus which None bare h = cc

answer_of : (asks : Asks) (plus : Bool) (which other : ModeLetter) (next : Option (List ℕ))
    → asks_of which (answer asks plus other next) ≡ true
    → nat_eq (letter_byte which) (letter_byte other) ≡ true
answer_of Nothing plus which other next h = h
answer_of Word plus which other (Some word) h = h
answer_of Word plus which other None h = cc
answer_of WordIfAny plus which other (Some word) h = h
answer_of WordIfAny plus which other None h = h
answer_of WordOrList plus which other (Some word) h = h
answer_of WordOrList plus which other None h = cc

-- A letter that asks for a change with a parameter counts among those that take one, and one that
-- changes a mode of which there is one change at most is met by its byte.
pub record IsSound (read : ReadLetter) : Type 0 where
  pub taking : asks_parameter read.asked ≡ true → read.takes ≡ true
  pub once : (which : ModeLetter) → IsOnce which → asks_of which read.asked ≡ true
      → read.once ≡ true
  pub byte : (which : ModeLetter) → asks_of which read.asked ≡ true
      → nat_eq (letter_byte which) read.byte ≡ true

pub reading_sound : (plus : Bool) (byte : ℕ) (next : Option (List ℕ))
    → IsSound (reading plus byte next)
reading_sound plus byte next = by (mode_of byte) refl
  where
    by : (mode : Option ModeLetter) → mode_of byte ≡ mode → IsSound (reading_of plus byte mode next)
    by None is = record { taking = λ h. cc; once = λ which o h. cc; byte = λ which h. cc }
    by (Some other) is = record {
      taking = answer_takes (needs plus other) plus other next (needs_none plus other);
      once = λ which o h.
          once_always other (is_some next)
          (ap (λ l. once l true) (sym (same_letter which other
          (answer_of (needs plus other) plus which other next h))) ∙ o);
      byte = λ which h.
          ap (λ b. nat_eq (letter_byte which) b) (sym (byte_named byte other is))
          ∙ answer_of (needs plus other) plus which other next h;
    }
