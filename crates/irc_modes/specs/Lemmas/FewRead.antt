-- What is read of a MODE keeps the limits of one command, and so does whatever of it is left.
use Rattle.std.proofs.Common.{◌≡◌, ℕ, ◌+◌, ◌-◌, ◌<◌, ◌≤◌, Bool, true, false, cond, not, ◌&&◌, ◌||◌}
use Rattle.std.proofs.Common.{Option, Some, None, is_some, List, [], ◌∷◌, ◌++◌, filter, nat_eq}
use Rattle.std.proofs.Common.{nat_lt, count_by, refl, sym, ap, subst, ◌∙◌, arith}
use Rattle.std.proofs.lemmas.Bool.{ltb-true, eqb-true, and_from}
use Rattle.std.proofs.lemmas.List.Folds.{list_any-append}
use Rattle.std.proofs.lemmas.List.Sums.{sum_by-cons, sum_by_push}
use Rattle.std.specs.List.{AllByRecursion, list_any, list_all}
use Rattle.std.specs.Cmp.{first_so, second_so}
use Rattle.irc_names.specs.Lemmas.PlainFacts.{list_all-filter}
use Rattle.irc_modes.specs.declared.modes.ModeChange.{ModeChange}
use Rattle.irc_modes.specs.declared.modes.ModeLetter.{ModeLetter}
use Rattle.irc_modes.specs.Letters.{letter_byte, plus_byte}
use Rattle.irc_modes.specs.Limits.{max_mode_parameters}
use Rattle.irc_modes.specs.ModeLaws.{LeftIsReadable, ReadChangesAreFew, SomeAskedAreReadable}
use Rattle.irc_modes.specs.ModeWords.{Asked, ReadLetter, is_once_with, is_sign, next_word}
use Rattle.irc_modes.specs.ModeWords.{reading, words_after, counts, counted, letters_read}
use Rattle.irc_modes.specs.ModeWords.{modes_read}
use Rattle.irc_modes.specs.Readable.{AreSomeAsked, nothing_left, one_left_out, one_made}
use Rattle.irc_modes.specs.Readable.{IsOneAsked, IsOnce, asks_of, asks_parameter, has_its_word}
use Rattle.irc_modes.specs.Readable.{has_parameter, is_of, is_parameter, is_worded, word_fits}
use Rattle.irc_modes.specs.Lemmas.LetterReading.{IsSound, reading_sound}

-- ---- the letters that count

all_sound : (plus : Bool) (letters : List ℕ) (words : List (List ℕ))
    → AllByRecursion IsSound (letters_read plus letters words)
all_sound plus [] words = tt
all_sound plus (byte ∷ letters) words =
    by (is_sign byte) (all_sound (nat_eq byte plus_byte) letters words)
    (all_sound plus letters (words_after plus byte words))
  where
    by : (test : Bool) → AllByRecursion IsSound (letters_read (nat_eq byte plus_byte) letters words)
        → AllByRecursion IsSound (letters_read plus letters (words_after plus byte words))
        → AllByRecursion IsSound (cond test (letters_read (nat_eq byte plus_byte) letters words)
        (reading plus byte (next_word words) ∷ letters_read plus letters
        (words_after plus byte words)))
    by true signed later = signed
    by false signed later = (reading_sound plus byte (next_word words), later)

-- how many of the items that come of one letter, and of those after it, pass a test
one_counted : (p : Asked → Bool) (verdict : Bool) (item : Asked) (items : List Asked) → count_by p
    (cond verdict (item ∷ []) [] ++ items) ≡ cond verdict (cond (p item) 1 0) 0 + count_by p items
one_counted p true item items = sum_by-cons (λ i. cond (p i) 1 0) item items
one_counted p false item items = omega arith

few_more : (verdict asks takes : Bool) (n rest : ℕ)
    → (verdict ≡ true → (not takes || nat_lt n max_mode_parameters) ≡ true)
    → (asks ≡ true → takes ≡ true) → rest ≤ max_mode_parameters - (n + cond takes 1 0)
    → cond verdict (cond asks 1 0) 0 + rest ≤ max_mode_parameters - n
few_more false asks takes n rest counting taking less = omega (arith, less)
few_more true false takes n rest counting taking less = omega (arith, less)
few_more true true false n rest counting taking less = let clash = taking refl in cc
few_more true true true n rest counting taking less =
    let below : n < max_mode_parameters = ltb-true n max_mode_parameters (counting refl) in
    omega (arith, less)

few_counted : (earlier rs : List ReadLetter) → AllByRecursion IsSound rs → count_by asks_parameter
    (counted earlier rs) ≤ max_mode_parameters - count_by (λ r. r.takes) earlier
few_counted earlier [] sound = omega arith
few_counted earlier (r ∷ rs) sound =
    let n = count_by (λ (q : ReadLetter). q.takes) earlier in
    let rest = counted (earlier ++ r ∷ []) rs in
    let later : count_by asks_parameter rest ≤ max_mode_parameters - (n + cond r.takes 1 0) =
    subst (λ k. count_by asks_parameter rest ≤ max_mode_parameters - k)
    (sum_by_push (λ (q : ReadLetter). cond q.takes 1 0) earlier r)
    (few_counted (earlier ++ r ∷ []) rs sound.1) in
    let step = few_more (counts earlier r) (asks_parameter r.asked) r.takes n
    (count_by asks_parameter rest)
    (λ verdict. first_so (not r.takes || nat_lt n max_mode_parameters)
    (not (r.once && list_any (is_once_with r.byte) earlier)) verdict)
    sound.0.taking later in
    subst (λ k. k ≤ max_mode_parameters - n)
    (sym (one_counted asks_parameter (counts earlier r) r.asked rest)) step

once_more : (verdict asks met again : Bool) (rest : ℕ)
    → (verdict ≡ true → asks ≡ true → met ≡ false) → (asks ≡ true → again ≡ true)
    → rest + cond (met || again) 1 0 ≤ 1 → cond verdict (cond asks 1 0) 0 + rest + cond met 1 0 ≤ 1
once_more false asks true again rest new kept less = omega (arith, less)
once_more false asks false again rest new kept less = omega (arith, less)
once_more true false true again rest new kept less = omega (arith, less)
once_more true false false again rest new kept less = omega (arith, less)
once_more true true true again rest new kept less = let clash = new refl refl in cc
once_more true true false false rest new kept less = let clash = kept refl in cc
once_more true true false true rest new kept less = omega (arith, less)

not_and : (single met : Bool) → not (single && met) ≡ true → single ≡ true → met ≡ false
not_and true true h s = cc
not_and true false h s = refl
not_and false met h s = cc

or_nothing : (a b : Bool) → (a || (b || false)) ≡ (a || b)
or_nothing true b = refl
or_nothing false true = refl
or_nothing false false = refl

once_counted : (which : ModeLetter) → IsOnce which → (earlier rs : List ReadLetter)
    → AllByRecursion IsSound rs → count_by (asks_of which) (counted earlier rs) + cond
    (list_any (is_once_with (letter_byte which)) earlier) 1 0 ≤ 1
once_counted which single earlier [] sound =
    by (list_any (is_once_with (letter_byte which)) earlier)
  where
    by : (met : Bool) → 0 + cond met 1 0 ≤ 1
    by true = omega arith
    by false = omega arith
once_counted which single earlier (r ∷ rs) sound =
    let byte = letter_byte which in
    let met = list_any (is_once_with byte) earlier in
    let again = is_once_with byte r in
    let rest = counted (earlier ++ r ∷ []) rs in
    let joined : list_any (is_once_with byte) (earlier ++ r ∷ []) ≡ (met || again) =
    list_any-append (is_once_with byte) earlier (r ∷ []) ∙ or_nothing met again in
    let later : count_by (asks_of which) rest + cond (met || again) 1 0 ≤ 1 =
    subst (λ b. count_by (asks_of which) rest + cond b 1 0 ≤ 1) joined
    (once_counted which single (earlier ++ r ∷ []) rs sound.1) in
    let new : counts earlier r ≡ true → asks_of which r.asked ≡ true → met ≡ false =
    λ verdict asks.
    ap (λ b. list_any (is_once_with b) earlier) (eqb-true byte r.byte (sound.0.byte which asks))
    ∙ not_and r.once (list_any (is_once_with r.byte) earlier)
    (second_so (not r.takes
    || nat_lt (count_by (λ (q : ReadLetter). q.takes) earlier) max_mode_parameters) _ verdict)
    (sound.0.once which single asks) in
    let step = once_more (counts earlier r) (asks_of which r.asked) met again
    (count_by (asks_of which) rest) new
    (λ asks. and_from r.once (nat_eq byte r.byte) (sound.0.once which single asks)
    (sound.0.byte which asks)) later in
    subst (λ k. k + cond met 1 0 ≤ 1)
    (sym (one_counted (asks_of which) (counts earlier r) r.asked rest)) step

pub read_changes_are_few : ReadChangesAreFew
read_changes_are_few [] = record { few = omega arith; once = λ which single. omega arith }
read_changes_are_few (letters ∷ words) =
    let sound = all_sound true letters words in
    record {
      few = few_counted [] (letters_read true letters words) sound;
      once = λ which single.
          omega (arith, once_counted which single [] (letters_read true letters words) sound);
    }

-- ---- some of what was asked for

-- each change passes a test just where what asked for it does
count_some : (p : Asked → Bool) (q : ModeChange → Bool) → ((item : Asked) (made : ModeChange)
    → IsOneAsked item made → q made ≡ true → p item ≡ true) → (items : List Asked)
    (changes : List ModeChange) → AreSomeAsked items changes → count_by q changes ≤ count_by p items
count_some p q passes items changes nothing_left = omega arith
count_some p q passes (item ∷ items) changes (one_left_out more) =
    omega (
      arith,
      count_some p q passes items changes more,
      sum_by-cons (λ i. cond (p i) 1 0) item items,
    )
count_some p q passes (item ∷ items) (made ∷ changes) (one_made one more) =
    omega (
      arith,
      by (q made) (p item) (passes item made one),
      count_some p q passes items changes more,
      sum_by-cons (λ i. cond (p i) 1 0) item items,
      sum_by-cons (λ c. cond (q c) 1 0) made changes,
    )
  where
    by : (here there : Bool) → (here ≡ true → there ≡ true) → cond here 1 0 ≤ cond there 1 0
    by false there h = omega arith
    by true true h = omega arith
    by true false h = let clash = h refl in cc

worded_asks : (plus : Bool) (which : ModeLetter) (word : Option (List ℕ))
    → word_fits plus which word ≡ true → is_some word ≡ true → has_parameter plus which ≡ true
worded_asks plus which None fits some = cc
worded_asks plus which (Some word) fits some =
    first_so (has_parameter plus which) (is_parameter which word) fits

all_worded : (items : List Asked) (changes : List ModeChange) → AreSomeAsked items changes
    → list_all has_its_word changes ≡ true
all_worded items changes nothing_left = refl
all_worded (item ∷ items) changes (one_left_out more) = all_worded items changes more
all_worded (item ∷ items) (made ∷ changes) (one_made one more) =
    and_from (has_its_word made) (list_all has_its_word changes) one.worded
    (all_worded items changes more)

pub some_asked_are_readable : SomeAskedAreReadable
some_asked_are_readable words changes some filled =
    let few = read_changes_are_few words in
    record {
      filled = filled;
      worded = all_worded (modes_read words) changes some;
      few =
          omega (
            arith,
            few.few,
            count_some asks_parameter is_worded
                (λ item made one has. ap asks_parameter one.asked ∙ worded_asks made.plus
                made.letter made.word one.worded has) (modes_read words) changes some,
          );
      once = λ which single.
          omega (
            arith,
            few.once which single,
            count_some (asks_of which) (is_of which) (λ item made one is.
                ap (asks_of which) one.asked ∙ is) (modes_read words) changes some,
          );
    }

-- ---- some left out

count_left : {X : Type 0} (p keeps : X → Bool) (xs : List X)
    → count_by p (filter keeps xs) ≤ count_by p xs
count_left p keeps [] = omega arith
count_left p keeps (x ∷ xs) = by (keeps x) (count_left p keeps xs)
  where
    by : (test : Bool) → count_by p (filter keeps xs) ≤ count_by p xs
        → count_by p (cond test (x ∷ filter keeps xs) (filter keeps xs)) ≤ count_by p (x ∷ xs)
    by true less = omega (
      arith,
      less,
      sum_by-cons (λ y. cond (p y) 1 0) x xs,
      sum_by-cons (λ y. cond (p y) 1 0) x (filter keeps xs),
    )
    by false less = omega (arith, less, sum_by-cons (λ y. cond (p y) 1 0) x xs)

pub left_is_readable : LeftIsReadable
left_is_readable keeps changes readable filled = record {
  filled = filled;
  worded = list_all-filter has_its_word keeps changes readable.worded;
  few = omega (arith, readable.few, count_left is_worded keeps changes);
  once = λ which single.
      omega (arith, readable.once which single, count_left (is_of which) keeps changes);
}
