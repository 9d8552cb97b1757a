-- Two settings, each done first at one end.
use Rattle.std.proofs.Common.{◌≡◌, ℕ, Bool, true, false, not, ◌||◌, ◌&&◌, Option, Some, None, List}
use Rattle.std.proofs.Common.{◌∙◌, ap, refl, sym, nat_eq, arith, if◌then◌else◌}
use Rattle.std.proofs.Common.{is_some, unwrap_or, true≢false}
use Rattle.std.proofs.lemmas.Bool.{and_parts, eqb-true, ltb-true, ltb-false, and_left}
use Rattle.std.specs.declared.cmp.Ordering.{Ordering}
use Rattle.std.specs.declared.cmp.Ordering.TheVariants.{Less, Equal, Greater}
use Rattle.std.specs.Cmp.Lexicographic.{nat_list_cmp_total}
use Rattle.std.specs.Option.{option_and_then}
use Rattle.std.specs.Ordering.{is_lt, ordering_reverse}
use Rattle.irc_names.specs.Lemmas.PlainFacts.{nat_eq-turned, implied}
use Rattle.irc_names.specs.Fold.{same}
use Rattle.irc_names.specs.Greater.{bytes_cmp}
use Rattle.irc_names.specs.GreaterLaws.{bytes_cmp-IsAntisymmetric}
use Rattle.irc_modes.specs.Letters.{letter_byte}
use Rattle.irc_modes.specs.declared.modes.ModeChange.{ModeChange}
use Rattle.irc_modes.specs.declared.modes.ModeLetter.{ModeLetter}
use Rattle.irc_modes.specs.declared.modes.ModeLetter.TheVariants as letter
use Rattle.irc_crossing.specs.declared.setting.Setting.{Setting}
use Rattle.irc_crossing.specs.declared.setting.Setting.TheVariants.{Mode, Spelling, Topic}
use Rattle.irc_crossing.specs.BothSet.{AreAlike, AreAlikeModes, AreAlikeWords, IsWritten}
use Rattle.irc_crossing.specs.BothSet.{OneThingIsEven, OthersPass, SettingsAgree}
use Rattle.irc_crossing.specs.BothSet.{are_of_one_thing, needs_word, staying}
use Rattle.irc_crossing.specs.Settings.{are_greater_bytes, are_same_words, is_above, is_by_word}
use Rattle.irc_crossing.specs.Settings.{is_greater_change, is_greater_limit, is_greater_set}
use Rattle.irc_crossing.specs.Settings.{is_one_place, is_secret, limit_of, place_of, yields}
use Rattle.irc_crossing.proofs.BothEnds.{either_way, turned}

-- ---- letters

abbrev letter_of : ℕ → ModeLetter
letter_of byte =
    if nat_eq byte 0x69 then letter.InviteOnly
    else (if nat_eq byte 0x6D then letter.Moderated
    else (if nat_eq byte 0x6E then letter.NoOutside
    else (if nat_eq byte 0x74 then letter.TopicLocked
    else (if nat_eq byte 0x70 then letter.Private
    else (if nat_eq byte 0x73 then letter.Secret
    else (if nat_eq byte 0x6B then letter.Key
    else (if nat_eq byte 0x6C then letter.Limit
    else (if nat_eq byte 0x62 then letter.Ban
    else (if nat_eq byte 0x6F then letter.Operator else letter.Voice)))))))))

letter_back : (it : ModeLetter) → letter_of (letter_byte it) ≡ it
letter_back letter.InviteOnly = refl
letter_back letter.Moderated = refl
letter_back letter.NoOutside = refl
letter_back letter.TopicLocked = refl
letter_back letter.Private = refl
letter_back letter.Secret = refl
letter_back letter.Key = refl
letter_back letter.Limit = refl
letter_back letter.Ban = refl
letter_back letter.Operator = refl
letter_back letter.Voice = refl

-- one place, by whether that is s
abbrev whole : Bool → ModeLetter → ModeLetter
whole true place = letter.Secret
whole false place = place

whole_is : (it : ModeLetter) → whole (is_secret it) (place_of it) ≡ it
whole_is letter.InviteOnly = refl
whole_is letter.Moderated = refl
whole_is letter.NoOutside = refl
whole_is letter.TopicLocked = refl
whole_is letter.Private = refl
whole_is letter.Secret = refl
whole_is letter.Key = refl
whole_is letter.Limit = refl
whole_is letter.Ban = refl
whole_is letter.Operator = refl
whole_is letter.Voice = refl

by_word_of_place : (it : ModeLetter) → is_by_word it ≡ is_by_word (place_of it)
by_word_of_place letter.InviteOnly = refl
by_word_of_place letter.Moderated = refl
by_word_of_place letter.NoOutside = refl
by_word_of_place letter.TopicLocked = refl
by_word_of_place letter.Private = refl
by_word_of_place letter.Secret = refl
by_word_of_place letter.Key = refl
by_word_of_place letter.Limit = refl
by_word_of_place letter.Ban = refl
by_word_of_place letter.Operator = refl
by_word_of_place letter.Voice = refl

abbrev place_byte : ModeChange → ℕ
place_byte change = letter_byte (place_of change.letter)

places : (one other : ModeChange) → nat_eq (place_byte one) (place_byte other) ≡ true
    → place_of one.letter ≡ place_of other.letter
places one other is =
    sym (letter_back (place_of one.letter))
    ∙ ap letter_of (eqb-true (place_byte one) (place_byte other) is)
    ∙ letter_back (place_of other.letter)

secret_is : (it : ModeLetter) → is_secret it ≡ true → it ≡ letter.Secret
secret_is it is = sym (whole_is it) ∙ ap (λ b. whole b (place_of it)) is

other_is : (it : ModeLetter) → is_secret it ≡ false → it ≡ place_of it
other_is it is = sym (whole_is it) ∙ ap (λ b. whole b (place_of it)) is

letters_alike : (one other : ModeLetter) → place_of one ≡ place_of other
    → is_secret one ≡ is_secret other → one ≡ other
letters_alike one other place secret =
    sym (whole_is one) ∙ (λ i. whole (secret i) (place i)) ∙ whole_is other

-- ---- one thing, whichever is named first

words_even : (one other : Option (List ℕ)) → are_same_words one other ≡ are_same_words other one
words_even None None = refl
words_even None (Some other) = refl
words_even (Some one) None = refl
words_even (Some one) (Some other) = either_way other one

place_even : (one other : ModeChange) → is_one_place one other ≡ is_one_place other one
place_even one other = by (nat_eq (place_byte one) (place_byte other)) refl
  where
    turns : nat_eq (place_byte one) (place_byte other)
        ≡ nat_eq (place_byte other) (place_byte one)
    turns = nat_eq-turned (place_byte one) (place_byte other)

    by : (b : Bool) → nat_eq (place_byte one) (place_byte other) ≡ b
        → is_one_place one other ≡ is_one_place other one
    by false is =
        ap (λ b. b && (not (is_by_word one.letter) || are_same_words one.word other.word)) is
        ∙ sym (ap (λ b. b && (not (is_by_word other.letter)
        || are_same_words other.word one.word)) (sym turns ∙ is))
    by true is =
        let marks : is_by_word one.letter ≡ is_by_word other.letter =
        by_word_of_place one.letter ∙ ap is_by_word (places one other is)
        ∙ sym (by_word_of_place other.letter) in
        λ i. turns i && (not (marks i) || words_even one.word other.word i)

pub one_thing_is_even : OneThingIsEven
one_thing_is_even (Mode channel one) (Mode at other) =
    λ i. either_way at channel i && place_even one other i
one_thing_is_even (Mode channel one) (Topic at other) = refl
one_thing_is_even (Mode channel one) (Spelling other) = refl
one_thing_is_even (Topic channel one) (Mode at other) = refl
one_thing_is_even (Topic channel one) (Topic at other) = either_way at channel
one_thing_is_even (Topic channel one) (Spelling other) = refl
one_thing_is_even (Spelling one) (Mode at other) = refl
one_thing_is_even (Spelling one) (Topic at other) = refl
one_thing_is_even (Spelling one) (Spelling other) = either_way other one

-- ---- what is of another thing

no_part : (a b c : Bool) → (a && b) ≡ false → (a && (b && c)) ≡ false
no_part true true c none = absurd (true≢false none)
no_part true false c none = refl
no_part false b c none = refl

others_stay : (theirs ours : Setting) → are_of_one_thing theirs ours ≡ false
    → yields theirs ours ≡ false
others_stay (Mode channel one) (Mode at other) none =
    no_part (same channel at) (is_one_place one other) (not (is_greater_change one other)) none
others_stay (Mode channel one) (Topic at other) none = refl
others_stay (Mode channel one) (Spelling other) none = refl
others_stay (Topic channel one) (Mode at other) none = refl
others_stay (Topic channel one) (Topic at other) none =
    and_left (same channel at) (not (is_lt (bytes_cmp other one))) none
others_stay (Topic channel one) (Spelling other) none = refl
others_stay (Spelling one) (Mode at other) none = refl
others_stay (Spelling one) (Topic at other) none = refl
others_stay (Spelling one) (Spelling other) none =
    and_left (same one other) (not (is_lt (bytes_cmp other one))) none

pub others_pass : OthersPass
others_pass theirs ours none =
    ap (λ b. if b then None else Some theirs) (others_stay theirs ours none)

-- ---- one of two is the greater, or neither

bytes_turned : (one other : List ℕ)
    → bytes_cmp other one ≡ ordering_reverse (bytes_cmp one other)
bytes_turned one other = nat_list_cmp_total.antisymm other one

bytes_tie : (one other : List ℕ) → is_lt (bytes_cmp one other) ≡ false
    → is_lt (bytes_cmp other one) ≡ false → one ≡ other
bytes_tie one other here there = by (bytes_cmp one other) refl
  where
    by : (r : Ordering) → bytes_cmp one other ≡ r → one ≡ other
    by Less is = absurd (true≢false (sym (ap is_lt is) ∙ here))
    by Equal is = bytes_cmp-IsAntisymmetric one other is
    by Greater is = absurd (true≢false (sym (ap is_lt (bytes_turned one other
        ∙ ap ordering_reverse is)) ∙ there))

bytes_never : (one other : List ℕ) → is_lt (bytes_cmp one other) ≡ true
    → is_lt (bytes_cmp other one) ≡ true → ⊥
bytes_never one other here there = by (bytes_cmp one other) refl
  where
    by : (r : Ordering) → bytes_cmp one other ≡ r → ⊥
    by Less is = true≢false (sym there ∙ ap is_lt (bytes_turned one other
        ∙ ap ordering_reverse is))
    by Equal is = true≢false (sym here ∙ ap is_lt is)
    by Greater is = true≢false (sym here ∙ ap is_lt is)

numbers_tie : (one other : Option ℕ) → is_above one other ≡ false → is_above other one ≡ false
    → one ≡ other
numbers_tie None None here there = refl
numbers_tie None (Some other) here there = absurd (true≢false there)
numbers_tie (Some one) None here there = absurd (true≢false here)
numbers_tie (Some one) (Some other) here there =
    let below = ltb-false other one here in
    let above = ltb-false one other there in
    let alike : one ≡ other = omega arith in
    ap Some alike

numbers_never : (one other : Option ℕ) → is_above one other ≡ true → is_above other one ≡ true
    → ⊥
numbers_never None other here there = true≢false (sym here)
numbers_never (Some one) None here there = true≢false (sym there)
numbers_never (Some one) (Some other) here there =
    let below = ltb-true other one here in
    let above = ltb-true one other there in
    omega arith

-- ---- words of one letter

texts_tie : (one other : Option (List ℕ)) → is_some one ≡ true → is_some other ≡ true
    → are_greater_bytes one other ≡ false → are_greater_bytes other one ≡ false → one ≡ other
texts_tie None other first second here there = absurd (true≢false (sym first))
texts_tie (Some one) None first second here there = absurd (true≢false (sym second))
texts_tie (Some one) (Some other) first second here there = ap Some (bytes_tie one other there here)

texts_never : (one other : Option (List ℕ)) → are_greater_bytes one other ≡ true
    → are_greater_bytes other one ≡ true → ⊥
texts_never None other here there = true≢false (sym here)
texts_never (Some one) None here there = true≢false (sym here)
texts_never (Some one) (Some other) here there = bytes_never one other there here

limits_tie : (one other : Option (List ℕ)) → is_some one ≡ true → is_some other ≡ true
    → is_greater_limit one other ≡ false → is_greater_limit other one ≡ false
    → option_and_then limit_of one ≡ option_and_then limit_of other
limits_tie None other first second here there = absurd (true≢false (sym first))
limits_tie (Some one) None first second here there = absurd (true≢false (sym second))
limits_tie (Some one) (Some other) first second here there =
    numbers_tie (limit_of one) (limit_of other) here there

limits_never : (one other : Option (List ℕ)) → is_greater_limit one other ≡ true
    → is_greater_limit other one ≡ true → ⊥
limits_never None other here there = true≢false (sym here)
limits_never (Some one) None here there = true≢false (sym here)
limits_never (Some one) (Some other) here there =
    numbers_never (limit_of one) (limit_of other) here there

first_word : (one other : Option (List ℕ)) → are_same_words one other ≡ true → is_some one ≡ true
first_word None other alike = alike
first_word (Some one) other alike = refl

second_word : (one other : Option (List ℕ)) → are_same_words one other ≡ true
    → is_some other ≡ true
second_word None other alike = absurd (true≢false (sym alike))
second_word (Some one) None alike = alike
second_word (Some one) (Some other) alike = refl

-- what is known of a letter's word that is set
record HasWord (which : ModeLetter) (word : Option (List ℕ)) : Type 0 where
  written : needs_word which ≡ true → is_some word ≡ true
  named : is_by_word which ≡ true → is_some word ≡ true

words_tie : (which : ModeLetter) (one other : ModeChange) → HasWord which one.word
    → HasWord which other.word → is_greater_set which one other ≡ false
    → is_greater_set which other one ≡ false → AreAlikeWords which one.word other.word
words_tie letter.InviteOnly one other first second here there = tt
words_tie letter.Moderated one other first second here there = tt
words_tie letter.NoOutside one other first second here there = tt
words_tie letter.TopicLocked one other first second here there = tt
words_tie letter.Private one other first second here there = tt
words_tie letter.Secret one other first second here there = tt
words_tie letter.Operator one other first second here there = tt
words_tie letter.Voice one other first second here there = tt
words_tie letter.Key one other first second here there =
    texts_tie one.word other.word (first.written refl) (second.written refl) here there
words_tie letter.Ban one other first second here there =
    texts_tie one.word other.word (first.named refl) (second.named refl) here there
words_tie letter.Limit one other first second here there =
    limits_tie one.word other.word (first.written refl) (second.written refl) here there

words_never : (which : ModeLetter) (one other : ModeChange)
    → is_secret other.letter ≡ is_secret which → is_greater_set which one other ≡ true
    → is_greater_set which other one ≡ true → ⊥
words_never letter.InviteOnly one other alike here there = true≢false (sym here)
words_never letter.Moderated one other alike here there = true≢false (sym here)
words_never letter.NoOutside one other alike here there = true≢false (sym here)
words_never letter.TopicLocked one other alike here there = true≢false (sym here)
words_never letter.Private one other alike here there = true≢false (sym here)
words_never letter.Operator one other alike here there = true≢false (sym here)
words_never letter.Voice one other alike here there = true≢false (sym here)
words_never letter.Secret one other alike here there = true≢false (sym here ∙ ap not alike)
words_never letter.Key one other alike here there = texts_never one.word other.word here there
words_never letter.Ban one other alike here there = texts_never one.word other.word here there
words_never letter.Limit one other alike here there = limits_never one.word other.word here there

words_themselves : (which : ModeLetter) (word : Option (List ℕ)) → AreAlikeWords which word word
words_themselves letter.InviteOnly word = tt
words_themselves letter.Moderated word = tt
words_themselves letter.NoOutside word = tt
words_themselves letter.TopicLocked word = tt
words_themselves letter.Private word = tt
words_themselves letter.Secret word = tt
words_themselves letter.Operator word = tt
words_themselves letter.Voice word = tt
words_themselves letter.Key word = refl
words_themselves letter.Ban word = refl
words_themselves letter.Limit word = refl

-- ---- two changes of one place

-- what is set over s is s
secret_then : (one other : ModeChange) → is_greater_set one.letter one other ≡ false
    → is_secret one.letter ≡ true → is_secret other.letter ≡ true
secret_then one other less is = by (is_secret other.letter) refl
  where
    by : (b : Bool) → is_secret other.letter ≡ b → b ≡ true
    by true so = refl
    by false so = sym less
        ∙ ap (λ which. is_greater_set which one other) (secret_is one.letter is) ∙ ap not so

-- p is not set over s
lone : (one other : ModeChange) → place_of one.letter ≡ place_of other.letter
    → is_secret one.letter ≡ true → is_secret other.letter ≡ false
    → is_greater_set other.letter other one ≡ true → ⊥
lone one other place secret plain above =
    let private : other.letter ≡ letter.Private =
    other_is other.letter plain ∙ sym place ∙ ap place_of (secret_is one.letter secret) in
    true≢false (sym above ∙ ap (λ which. is_greater_set which other one) private)

module _ (one other : ModeChange) (place : place_of one.letter ≡ place_of other.letter) where
  set_never : is_greater_set one.letter one other ≡ true
      → is_greater_set other.letter other one ≡ true → ⊥
  set_never here there = by (is_secret one.letter) refl (is_secret other.letter) refl
    where
      among : is_secret one.letter ≡ is_secret other.letter → ⊥
      among alike = words_never one.letter one other (sym alike) here
          (ap (λ which. is_greater_set which other one)
          (letters_alike one.letter other.letter place alike) ∙ there)

      by : (p : Bool) → is_secret one.letter ≡ p → (q : Bool) → is_secret other.letter ≡ q → ⊥
      by true first true second = among (first ∙ sym second)
      by true first false second = lone one other place first second there
      by false first true second = lone other one (sym place) second first here
      by false first false second = among (first ∙ sym second)

  set_tie : is_greater_set one.letter one other ≡ false
      → is_greater_set other.letter other one ≡ false → one.letter ≡ other.letter
  set_tie here there = by (is_secret one.letter) refl (is_secret other.letter) refl
    where
      by : (p : Bool) → is_secret one.letter ≡ p → (q : Bool) → is_secret other.letter ≡ q
          → one.letter ≡ other.letter
      by true first true second =
          letters_alike one.letter other.letter place (first ∙ sym second)
      by true first false second =
          absurd (true≢false (sym (secret_then one other here first) ∙ second))
      by false first true second =
          absurd (true≢false (sym (secret_then other one there second) ∙ first))
      by false first false second =
          letters_alike one.letter other.letter place (first ∙ sym second)

set_less : (p q b : Bool) → p ≡ true → q ≡ true → (p && (not q || b)) ≡ false → b ≡ false
set_less true true b first second less = less
set_less true false b first second less = absurd (true≢false (sym second))
set_less false q b first second less = absurd (true≢false (sym first))

signs_tie : (p q a b : Bool) → (p && (not q || a)) ≡ false → (q && (not p || b)) ≡ false → p ≡ q
signs_tie true true a b here there = refl
signs_tie true false a b here there = absurd (true≢false here)
signs_tie false true a b here there = absurd (true≢false there)
signs_tie false false a b here there = refl

module _ (one other : ModeChange) (is : is_one_place one other ≡ true) where
  parts : (nat_eq (place_byte one) (place_byte other) ≡ true)
      × ((not (is_by_word one.letter) || are_same_words one.word other.word) ≡ true)
  parts = and_parts (nat_eq (place_byte one) (place_byte other))
      (not (is_by_word one.letter) || are_same_words one.word other.word) is

  place : place_of one.letter ≡ place_of other.letter
  place = places one other parts.0

  named : is_by_word one.letter ≡ true → are_same_words one.word other.word ≡ true
  named by = implied (is_by_word one.letter) (are_same_words one.word other.word) parts.1 by

  change_never : is_greater_change one other ≡ true → is_greater_change other one ≡ true → ⊥
  change_never here there =
      let first = and_parts one.plus
      (not other.plus || is_greater_set one.letter one other) here in
      let second = and_parts other.plus
      (not one.plus || is_greater_set other.letter other one) there in
      set_never one other place
      (implied other.plus (is_greater_set one.letter one other) first.1 second.0)
      (implied one.plus (is_greater_set other.letter other one) second.1 first.0)

  module _ (here : is_greater_change one other ≡ false)
      (there : is_greater_change other one ≡ false) where
    signs : one.plus ≡ other.plus
    signs = signs_tie one.plus other.plus (is_greater_set one.letter one other)
        (is_greater_set other.letter other one) here there

    module _ (set : one.plus ≡ true) where
      below : is_greater_set one.letter one other ≡ false
      below = set_less one.plus other.plus (is_greater_set one.letter one other) set
          (sym signs ∙ set) here

      above : is_greater_set other.letter other one ≡ false
      above = set_less other.plus one.plus (is_greater_set other.letter other one)
          (sym signs ∙ set) set there

      letters : one.letter ≡ other.letter
      letters = set_tie one other place below above

  change_tie : (channel at : List ℕ) → IsWritten (Mode channel one) → IsWritten (Mode at other)
      → is_greater_change one other ≡ false → is_greater_change other one ≡ false
      → AreAlikeModes one other
  change_tie channel at first second here there = record {
    plus = signs here there;
    letters = letters here there;
    words = λ set. words_tie one.letter one other
        (record {
          written = first set;
          named = λ by. first_word one.word other.word (named by);
        })
        (record {
          written = λ by. second (sym (signs here there) ∙ set)
              (sym (ap needs_word (letters here there set)) ∙ by);
          named = λ by. second_word one.word other.word (named by);
        })
        (below here there set)
        (ap (λ which. is_greater_set which other one) (letters here there set)
        ∙ above here there set);
  }

-- ---- two settings

alike_itself : (it : Setting) → AreAlike it it
alike_itself (Mode channel change) = record {
  plus = refl;
  letters = λ set. refl;
  words = λ set. words_themselves change.letter change.word;
}
alike_itself (Topic channel text) = refl
alike_itself (Spelling channel) = refl

agree_by : (theirs ours : Setting)
    → (yields theirs ours ≡ true → yields ours theirs ≡ true → AreAlike ours theirs)
    → (yields theirs ours ≡ false → yields ours theirs ≡ false → ⊥)
    → AreAlike (staying theirs ours) (staying ours theirs)
agree_by theirs ours tie never = by (yields theirs ours) (yields ours theirs) refl refl
  where
    by : (p q : Bool) → yields theirs ours ≡ p → yields ours theirs ≡ q
        → AreAlike (unwrap_or (if p then None else Some theirs) ours)
        (unwrap_or (if q then None else Some ours) theirs)
    by true true here there = tie here there
    by true false here there = alike_itself ours
    by false true here there = alike_itself theirs
    by false false here there = absurd (never here there)

-- of two that are of one thing
less_then : (a b : Bool) → (a && not b) ≡ true → b ≡ false
less_then a true is = sym (and_parts a false is).1
less_then a false is = refl

above_then : (a b : Bool) → a ≡ true → (a && not b) ≡ false → b ≡ true
above_then a true one is = refl
above_then true false one is = absurd (true≢false is)
above_then false false one is = absurd (true≢false (sym one))

less_of_three : (a b c : Bool) → (a && (b && not c)) ≡ true → c ≡ false
less_of_three a b c is = less_then b c (and_parts a (b && not c) is).1

above_of_three : (a b c : Bool) → a ≡ true → b ≡ true → (a && (b && not c)) ≡ false → c ≡ true
above_of_three true b c first second is = above_then b c second is
above_of_three false b c first second is = absurd (true≢false (sym first))

bytes_agree : (theirs ours : Setting) (a b : Bool) (one other : List ℕ)
    → a ≡ true → b ≡ true
    → yields theirs ours ≡ (a && not (is_lt (bytes_cmp other one)))
    → yields ours theirs ≡ (b && not (is_lt (bytes_cmp one other)))
    → (other ≡ one → AreAlike ours theirs)
    → AreAlike (staying theirs ours) (staying ours theirs)
bytes_agree theirs ours a b one other first second here there alike = agree_by theirs ours
    (λ left right. alike (bytes_tie other one
    (less_then a (is_lt (bytes_cmp other one)) (sym here ∙ left))
    (less_then b (is_lt (bytes_cmp one other)) (sym there ∙ right))))
    (λ left right. bytes_never other one
    (above_then a (is_lt (bytes_cmp other one)) first (sym here ∙ left))
    (above_then b (is_lt (bytes_cmp one other)) second (sym there ∙ right)))

modes_agree : (channel at : List ℕ) (one other : ModeChange)
    → (same channel at && is_one_place one other) ≡ true → IsWritten (Mode channel one)
    → IsWritten (Mode at other)
    → AreAlike (staying (Mode channel one) (Mode at other))
    (staying (Mode at other) (Mode channel one))
modes_agree channel at one other is first second =
    let are = and_parts (same channel at) (is_one_place one other) is in
    let turns = turned channel at are.0 in
    let back : is_one_place other one ≡ true = place_even other one ∙ are.1 in
    agree_by (Mode channel one) (Mode at other)
    (λ here there. change_tie other one back at channel second first
    (less_of_three (same at channel) (is_one_place other one) (is_greater_change other one) there)
    (less_of_three (same channel at) (is_one_place one other) (is_greater_change one other) here))
    (λ here there. change_never one other are.1
    (above_of_three (same channel at) (is_one_place one other) (is_greater_change one other)
    are.0 are.1 here)
    (above_of_three (same at channel) (is_one_place other one) (is_greater_change other one)
    turns back there))

pub settings_agree : SettingsAgree
settings_agree (Mode channel one) (Mode at other) is first second =
    modes_agree channel at one other is first second
settings_agree (Mode channel one) (Topic at other) is first second =
    absurd (true≢false (sym is))
settings_agree (Mode channel one) (Spelling other) is first second =
    absurd (true≢false (sym is))
settings_agree (Topic channel one) (Mode at other) is first second =
    absurd (true≢false (sym is))
settings_agree (Topic channel one) (Topic at other) is first second =
    bytes_agree (Topic channel one) (Topic at other) (same channel at) (same at channel) one other
    is (turned channel at is) refl refl (λ alike. alike)
settings_agree (Topic channel one) (Spelling other) is first second =
    absurd (true≢false (sym is))
settings_agree (Spelling one) (Mode at other) is first second =
    absurd (true≢false (sym is))
settings_agree (Spelling one) (Topic at other) is first second =
    absurd (true≢false (sym is))
settings_agree (Spelling one) (Spelling other) is first second =
    bytes_agree (Spelling one) (Spelling other) (same one other) (same other one) one other
    is (turned one other is) refl refl (λ alike. alike)
