-- Changes with other words.
use Rattle.std.proofs.Common.{◌≡◌, ℕ, ◌≤◌, Bool, true, false, cond, not, Option, Some, None}
use Rattle.std.proofs.Common.{is_some, List, [], ◌∷◌, ◌++◌, map, count_by, filter_map, refl, sym}
use Rattle.std.proofs.Common.{ap, ◌∙◌, arith}
use Rattle.std.proofs.lemmas.Bool.{and_from}
use Rattle.std.proofs.lemmas.List.Sums.{sum_by-cons}
use Rattle.std.specs.List.{list_all, cons_option}
use Rattle.std.specs.Cmp.{first_so, second_so}
use Rattle.irc_modes.specs.declared.modes.ModeChange.{ModeChange}
use Rattle.irc_modes.specs.declared.modes.ModeLetter.{ModeLetter}
use Rattle.irc_modes.specs.Modes.{is_nil}
use Rattle.irc_modes.specs.Letters.{letter_byte, sign_byte}
use Rattle.irc_modes.specs.ModeLaws.{reworded, RewordedIsWritten, RewordedIsReadable}
use Rattle.irc_modes.specs.ModeWritten.{letters_behind, letters_text}
use Rattle.irc_modes.specs.Readable.{has_its_word, has_parameter, is_of, is_parameter}
use Rattle.irc_modes.specs.Readable.{is_worded, word_fits}

letters_kept : (words : ModeChange → Option (List ℕ)) (sign : Bool) (changes : List ModeChange)
    → letters_behind sign changes ≡ letters_behind sign (map (reworded words) changes)
letters_kept words sign [] = refl
letters_kept words sign (c ∷ changes) =
    ap (λ letters. cond c.plus (cond sign [] (sign_byte true ∷ []))
    (cond sign (sign_byte false ∷ []) []) ++ letter_byte c.letter ∷ letters)
    (letters_kept words c.plus changes)

text_kept : (words : ModeChange → Option (List ℕ)) (changes : List ModeChange)
    → letters_text changes ≡ letters_text (map (reworded words) changes)
text_kept words [] = refl
text_kept words (c ∷ changes) = ap (λ letters. sign_byte c.plus ∷ letter_byte c.letter ∷ letters)
    (letters_kept words c.plus changes)

words_told : (words : ModeChange → Option (List ℕ)) (changes : List ModeChange) → filter_map words
    changes ≡ filter_map (λ (c : ModeChange). c.word) (map (reworded words) changes)
words_told words [] = refl
words_told words (c ∷ changes) = ap (cons_option (words c)) (words_told words changes)

pub reworded_is_written : RewordedIsWritten
reworded_is_written words changes =
    ap (λ letters. letters ∷ filter_map words changes) (text_kept words changes)
    ∙ ap (λ told. letters_text (map (reworded words) changes) ∷ told) (words_told words changes)

-- whether there is a word is told by the letter
worded_by : (plus : Bool) (which : ModeLetter) (word : Option (List ℕ))
    → word_fits plus which word ≡ true → is_some word ≡ has_parameter plus which
worded_by plus which None fits = by (has_parameter plus which) fits
  where
    by : (test : Bool) → not test ≡ true → false ≡ test
    by true fits = cc
    by false fits = refl
worded_by plus which (Some word) fits =
    sym (first_so (has_parameter plus which) (is_parameter which word) fits)

-- what is known of changes with other words
record AreAlike (changes others : List ModeChange) : Type 0 where
  worded : list_all has_its_word others ≡ true
  few : count_by is_worded others ≤ count_by is_worded changes
  once : (which : ModeLetter) → count_by (is_of which) others ≤ count_by (is_of which) changes

all_reworded : (words : ModeChange → Option (List ℕ)) (changes : List ModeChange)
    → ((c : ModeChange) → has_its_word c ≡ true → has_its_word (reworded words c) ≡ true)
    → list_all has_its_word changes ≡ true → AreAlike changes (map (reworded words) changes)
all_reworded words [] fit fits =
    record { worded = refl; few = omega arith; once = λ which. omega arith }
all_reworded words (c ∷ changes) fit fits =
    let others = map (reworded words) changes in
    let here : has_its_word c ≡ true =
    first_so (has_its_word c) (list_all has_its_word changes) fits in
    let there : has_its_word (reworded words c) ≡ true = fit c here in
    let rest = all_reworded words changes fit
    (second_so (has_its_word c) (list_all has_its_word changes) fits) in
    let same : is_some (words c) ≡ is_worded c = worded_by c.plus c.letter (words c) there
    ∙ sym (worded_by c.plus c.letter c.word here) in
    let as_many : ◌≡◌ {A = ℕ} (cond (is_some (words c)) 1 0) (cond (is_worded c) 1 0) =
    ap (λ b. cond b 1 0) same in
    record {
      worded = and_from (has_its_word (reworded words c))
          (list_all has_its_word others) there rest.worded;
      few =
          omega (
            arith,
            sum_by-cons (λ d. cond (is_worded d) 1 0) c changes,
            sum_by-cons (λ d. cond (is_worded d) 1 0) (reworded words c) others,
            as_many,
            rest.few,
          );
      once = λ which.
          omega (
            arith,
            sum_by-cons (λ d. cond (is_of which d) 1 0) c changes,
            sum_by-cons (λ d. cond (is_of which d) 1 0) (reworded words c) others,
            rest.once which,
          );
    }

filled_too : (words : ModeChange → Option (List ℕ)) (changes : List ModeChange)
    → is_nil changes ≡ false → is_nil (map (reworded words) changes) ≡ false
filled_too words [] filled = cc
filled_too words (c ∷ changes) filled = refl

pub reworded_is_readable : RewordedIsReadable
reworded_is_readable words changes fit readable =
    let alike = all_reworded words changes fit readable.worded in
    record {
      filled = filled_too words changes readable.filled;
      worded = alike.worded;
      few = omega (arith, alike.few, readable.few);
      once = λ which single. omega (arith, alike.once which, readable.once which single);
    }
