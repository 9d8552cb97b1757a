-- Changes that are written are read as they were.
use Rattle.std.proofs.Common.{◌≡◌, ℕ, ◌+◌, ◌≤◌, Bool, true, false, cond, not, ◌&&◌, ◌||◌, List, []}
use Rattle.std.proofs.Common.{◌∷◌, ◌++◌, map, nat_lt, count_by, filter_map, refl, ap, ◌∙◌, arith}
use Rattle.std.proofs.lemmas.Bool.{lt-ltb, eq-eqb, and_from}
use Rattle.std.proofs.lemmas.List.Sums.{sum_by-cons, sum_by_push}
use Rattle.std.specs.List.{list_any, list_all}
use Rattle.std.specs.Cmp.{first_so, second_so}
use Rattle.irc_modes.specs.declared.modes.ModeChange.{ModeChange}
use Rattle.irc_modes.specs.declared.modes.ModeLetter.{ModeLetter}
use Rattle.irc_modes.specs.Letters.{letter_byte, sign_byte}
use Rattle.irc_modes.specs.Limits.{max_mode_parameters}
use Rattle.irc_modes.specs.ModeLaws.{WrittenIsRead, asked_for}
use Rattle.irc_modes.specs.ModeWords.{ReadLetter, is_once_with, counts, counted, letters_read}
use Rattle.irc_modes.specs.ModeWords.{words_after, once}
use Rattle.irc_modes.specs.ModeWritten.{letters_behind, letters_text}
use Rattle.irc_modes.specs.Readable.{IsOnce, has_its_word, is_of, is_worded}
use Rattle.irc_modes.specs.Lemmas.LetterReading.{letter_no_sign, read_with, IsReadBack}
use Rattle.irc_modes.specs.Lemmas.LetterReading.{read_back}
use Rattle.irc_modes.specs.Lemmas.LettersInTurn.{letter_read}

abbrev pub read_as : ModeChange → ReadLetter
read_as c = read_with c.plus c.letter c.word

-- ---- each letter takes its own word

abbrev words_of : List ModeChange → List (List ℕ)
words_of changes = filter_map (λ (c : ModeChange). c.word) changes

sign_told : (sign plus : Bool) (letters : List ℕ) (words : List (List ℕ))
    → letters_read sign (cond plus (cond sign [] (sign_byte true ∷ []))
    (cond sign (sign_byte false ∷ []) []) ++ letters) words
    ≡ letters_read plus letters words
sign_told true true letters words = refl
sign_told true false letters words = refl
sign_told false true letters words = refl
sign_told false false letters words = refl

first_sign : (plus : Bool) (letters : List ℕ) (words : List (List ℕ))
    → letters_read true (sign_byte plus ∷ letters) words ≡ letters_read plus letters words
first_sign true letters words = refl
first_sign false letters words = refl

one_read : (c : ModeChange) (changes : List ModeChange) → has_its_word c ≡ true
    → letters_read c.plus (letters_behind c.plus changes) (words_of changes) ≡ map read_as changes
    → letters_read c.plus (letter_byte c.letter ∷ letters_behind c.plus changes)
    (words_of (c ∷ changes)) ≡ map read_as (c ∷ changes)
one_read c changes fits later =
    let back : IsReadBack c.plus c.letter c.word (words_of changes) =
    read_back c.plus c.letter c.word (words_of changes) fits in
    letter_read c.plus (letter_byte c.letter) (letters_behind c.plus changes)
    (words_of (c ∷ changes)) (letter_no_sign c.letter)
    ∙ ap (λ r. r ∷ letters_read c.plus (letters_behind c.plus changes)
    (words_after c.plus (letter_byte c.letter) (words_of (c ∷ changes)))) back.reads
    ∙ ap (λ ws. read_as c ∷ letters_read c.plus (letters_behind c.plus changes) ws) back.leaves
    ∙ ap (λ rs. read_as c ∷ rs) later

all_read : (sign : Bool) (changes : List ModeChange) → list_all has_its_word changes ≡ true
    → letters_read sign (letters_behind sign changes) (words_of changes) ≡ map read_as changes
all_read sign [] fits = refl
all_read sign (c ∷ changes) fits =
    sign_told sign c.plus (letter_byte c.letter ∷ letters_behind c.plus changes)
    (words_of (c ∷ changes))
    ∙ one_read c changes (first_so (has_its_word c) (list_all has_its_word changes) fits)
    (all_read c.plus changes (second_so (has_its_word c) (list_all has_its_word changes) fits))

text_read : (changes : List ModeChange) → list_all has_its_word changes ≡ true
    → letters_read true (letters_text changes) (words_of changes) ≡ map read_as changes
text_read [] fits = refl
text_read (c ∷ changes) fits =
    first_sign c.plus (letter_byte c.letter ∷ letters_behind c.plus changes)
    (words_of (c ∷ changes))
    ∙ one_read c changes (first_so (has_its_word c) (list_all has_its_word changes) fits)
    (all_read c.plus changes (second_so (has_its_word c) (list_all has_its_word changes) fits))

-- ---- all letters count

none_counted : {X : Type 0} (p : X → Bool) (xs : List X) → count_by p xs ≤ 0 → list_any p xs ≡ false
none_counted p [] few = refl
none_counted p (x ∷ xs) few = by (p x) (omega (arith, sum_by-cons (λ y. cond (p y) 1 0) x xs))
    (λ less. none_counted p xs less)
  where
    by : (test : Bool) → cond test 1 0 + count_by p xs ≤ 0
        → (count_by p xs ≤ 0 → list_any p xs ≡ false) → (test || list_any p xs) ≡ false
    by true less later = absurd (omega arith)
    by false less later = later (omega arith)

-- the letters before, and the changes that are left, keep the limits together
record Left (earlier : List ReadLetter) (changes : List ModeChange) : Type 0 where
  few : count_by (λ r. r.takes) earlier + count_by is_worded changes ≤ max_mode_parameters
  alone : (which : ModeLetter) → IsOnce which
      → count_by (is_once_with (letter_byte which)) earlier + count_by (is_of which) changes ≤ 1

has_room : (worded : Bool) (n more : ℕ) → n + (cond worded 1 0 + more) ≤ max_mode_parameters
    → (not worded || nat_lt n max_mode_parameters) ≡ true
has_room true n more few = lt-ltb n max_mode_parameters (omega arith)
has_room false n more few = refl

not_met : (single met : Bool) → (single ≡ true → met ≡ false) → not (single && met) ≡ true
not_met true met h = ap not (h refl)
not_met false met h = refl

at_most : (first second : Bool) → cond (first && second) 1 0 ≤ cond second 1 0
at_most true second = omega arith
at_most false true = omega arith
at_most false false = omega arith

one_of : (c : ModeChange) → ◌≡◌ {A = ℕ} (cond (is_of c.letter c) 1 0) 1
one_of c = ap (λ b. cond b 1 0) (eq-eqb (letter_byte c.letter) (letter_byte c.letter) refl)

it_counts : (earlier : List ReadLetter) (c : ModeChange) (changes : List ModeChange)
    → Left earlier (c ∷ changes) → counts earlier (read_as c) ≡ true
it_counts earlier c changes left =
    and_from _ _
    (has_room (is_worded c) (count_by (λ r. r.takes) earlier) (count_by is_worded changes)
    (omega (arith, left.few, sum_by-cons (λ d. cond (is_worded d) 1 0) c changes)))
    (not_met (once c.letter true) (list_any (is_once_with (letter_byte c.letter)) earlier)
    (λ single. none_counted (is_once_with (letter_byte c.letter)) earlier
    (omega (
      arith,
      left.alone c.letter single,
      sum_by-cons (λ d. cond (is_of c.letter d) 1 0) c changes,
      one_of c,
    ))))

one_more : (earlier : List ReadLetter) (c : ModeChange) (changes : List ModeChange)
    → Left earlier (c ∷ changes) → Left (earlier ++ read_as c ∷ []) changes
one_more earlier c changes left = record {
  few = omega (
    arith,
    left.few,
    sum_by-cons (λ d. cond (is_worded d) 1 0) c changes,
    sum_by_push (λ (r : ReadLetter). cond r.takes 1 0) earlier (read_as c),
  );
  alone = λ which single.
      omega (
        arith,
        left.alone which single,
        sum_by-cons (λ d. cond (is_of which d) 1 0) c changes,
        sum_by_push (λ r. cond (is_once_with (letter_byte which) r) 1 0) earlier (read_as c),
        at_most (once c.letter true) (is_of which c),
      );
}

all_count : (earlier : List ReadLetter) (changes : List ModeChange) → Left earlier changes
    → counted earlier (map read_as changes) ≡ map asked_for changes
all_count earlier [] left = refl
all_count earlier (c ∷ changes) left =
    ap (λ b. cond b (asked_for c ∷ []) [] ++ counted (earlier ++ read_as c ∷ [])
    (map read_as changes)) (it_counts earlier c changes left)
    ∙ ap (λ items. asked_for c ∷ items)
    (all_count (earlier ++ read_as c ∷ []) changes (one_more earlier c changes left))

pub written_is_read : WrittenIsRead
written_is_read changes readable =
    ap (counted []) (text_read changes readable.worded)
    ∙ all_count [] changes (record {
      few = omega (arith, readable.few);
      alone = λ which single. omega (arith, readable.once which single);
    })
