-- What a mask matches, by its front.
use Rattle.std.specs.Prelude.{◌≡◌, ℕ, ◌<◌, Bool, true, false, cond, not, ◌&&◌, ◌||◌, List, [], ◌∷◌}
use Rattle.std.specs.Prelude.{◌++◌, length, nat_eq, IsTrue}
use Rattle.std.proofs.Common.{refl, sym, ap, ◌∙◌, arith}
use Rattle.std.proofs.lemmas.Bool.{eqb-true, eq-eqb}
use Rattle.irc_names.specs.Fold.{fold}
use Rattle.irc_names.specs.Masks.{is_wild, starts_wild, stands_for_itself, Matches, run, any}
use Rattle.irc_names.specs.Masks.{escaped, plain, end}
use Rattle.irc_names.specs.Loops.Fronts.{Front, Empty, Begins, front, front_after_backslash}
use Rattle.irc_names.specs.Loops.Fronts.{accepts}
use Rattle.irc_names.specs.declared.matching.Part.{Part}
use Rattle.irc_names.specs.declared.matching.Part.TheVariants.{Run, AnyByte, Escaped, Plain}

-- ---- how the front is spelled

-- a mask is a part and the mask after it
pub data Spelled (mask : List ℕ) (part : Part) (rest : List ℕ) : Type 0 where
  star : mask ≡ 0x2A ∷ rest → part ≡ Run → Spelled mask part rest
  question : mask ≡ 0x3F ∷ rest → part ≡ AnyByte → Spelled mask part rest
  backslash : (byte : ℕ) → mask ≡ 0x5C ∷ byte ∷ rest → is_wild byte ≡ true → part ≡ Escaped byte
      → Spelled mask part rest
  itself : (byte : ℕ) → mask ≡ byte ∷ rest → stands_for_itself byte rest ≡ true → part ≡ Plain byte
      → Spelled mask part rest

abbrev by_tests : (s q b : Bool) → ℕ → List ℕ → Front
by_tests s q b byte rest = cond s (Begins Run rest)
    (cond q (Begins AnyByte rest) (cond b (front_after_backslash rest) (Begins (Plain byte) rest)))

no_wild : (s q b wild : Bool) → s ≡ false → q ≡ false → (b && wild) ≡ false
    → (not (s || q) && not (b && wild)) ≡ true
no_wild s q b wild not_star not_question not_escape = cc

pub spelled : (mask : List ℕ) {part : Part} {rest : List ℕ} → front mask ≡ Begins part rest
    → Spelled mask part rest
spelled [] begins = cc
spelled (byte ∷ bytes) {part} {rest} begins =
    by (nat_eq byte 0x2A) (nat_eq byte 0x3F) (nat_eq byte 0x5C) refl refl refl begins
  where
    after : (bytes : List ℕ) → nat_eq byte 0x2A ≡ false → nat_eq byte 0x3F ≡ false
        → nat_eq byte 0x5C ≡ true → front_after_backslash bytes ≡ Begins part rest
        → Spelled (byte ∷ bytes) part rest
    after [] s q b begins =
        let is : byte ≡ 0x5C = eqb-true byte 0x5C b in
        let left : [] ≡ rest = cc in
        let own : part ≡ Plain byte = cc in
        itself byte (cc) (ap (stands_for_itself byte) (sym left)
        ∙ no_wild (nat_eq byte 0x2A) (nat_eq byte 0x3F) (nat_eq byte 0x5C) false s q (cc)) own
    after (next ∷ others) s q b begins = next_by (is_wild next) refl begins
      where
        next_by : (wild : Bool) → is_wild next ≡ wild → cond wild (Begins (Escaped next) others)
            (Begins (Plain 0x5C) (next ∷ others)) ≡ Begins part rest
            → Spelled (byte ∷ next ∷ others) part rest
        next_by true wild begins =
            let is : byte ≡ 0x5C = eqb-true byte 0x5C b in
            let left : others ≡ rest = cc in
            let own : part ≡ Escaped next = cc in
            backslash next (cc) wild own
        next_by false tame begins =
            let is : byte ≡ 0x5C = eqb-true byte 0x5C b in
            let left : next ∷ others ≡ rest = cc in
            let own : part ≡ Plain byte = cc in
            let none : (nat_eq byte 0x5C && is_wild next) ≡ false = cc in
            itself byte (cc) (ap (stands_for_itself byte) (sym left) ∙ no_wild (nat_eq byte 0x2A)
            (nat_eq byte 0x3F) (nat_eq byte 0x5C) (is_wild next) s q none) own

    by : (star_there question_there backslash_there : Bool) → nat_eq byte 0x2A ≡ star_there
        → nat_eq byte 0x3F ≡ question_there → nat_eq byte 0x5C ≡ backslash_there
        → by_tests star_there question_there backslash_there byte bytes ≡ Begins part rest
        → Spelled (byte ∷ bytes) part rest
    by true q b there _ _ begins =
        let is : byte ≡ 0x2A = eqb-true byte 0x2A there in
        let left : bytes ≡ rest = cc in
        let own : part ≡ Run = cc in
        star (cc) own
    by false true b _ there _ begins =
        let is : byte ≡ 0x3F = eqb-true byte 0x3F there in
        let left : bytes ≡ rest = cc in
        let own : part ≡ AnyByte = cc in
        question (cc) own
    by false false true s q there begins = after bytes s q there begins
    by false false false s q b begins =
        let left : bytes ≡ rest = cc in
        let own : part ≡ Plain byte = cc in
        let none : (nat_eq byte 0x5C && starts_wild rest) ≡ false = cc in
        itself byte (cc) (no_wild (nat_eq byte 0x2A) (nat_eq byte 0x3F) (nat_eq byte 0x5C)
        (starts_wild rest) s q none) own

pub front-empty : (mask : List ℕ) → front mask ≡ Empty → mask ≡ []
front-empty [] empty = refl
front-empty (byte ∷ bytes) empty =
    absurd (by (nat_eq byte 0x2A) (nat_eq byte 0x3F) (nat_eq byte 0x5C) empty)
  where
    after : (bytes : List ℕ) → front_after_backslash bytes ≡ Empty → ⊥
    after [] empty = cc
    after (next ∷ others) empty = next_by (is_wild next) empty
      where
        next_by : (wild : Bool) → cond wild (Begins (Escaped next) others)
            (Begins (Plain 0x5C) (next ∷ others)) ≡ Empty → ⊥
        next_by true empty = cc
        next_by false empty = cc

    by : (s q b : Bool) → by_tests s q b byte bytes ≡ Empty → ⊥
    by true q b empty = cc
    by false true b empty = cc
    by false false true empty = after bytes empty
    by false false false empty = cc

front-itself : (byte : ℕ) (rest : List ℕ) → stands_for_itself byte rest ≡ true
    → front (byte ∷ rest) ≡ Begins (Plain byte) rest
front-itself byte rest own = by (nat_eq byte 0x2A) (nat_eq byte 0x3F) (nat_eq byte 0x5C) refl own
  where
    after : (rest : List ℕ) → nat_eq byte 0x5C ≡ true → not (starts_wild rest) ≡ true
        → front_after_backslash rest ≡ Begins (Plain byte) rest
    after [] there tame = ap (λ b. Begins (Plain b) []) (sym (eqb-true byte 0x5C there))
    after (next ∷ others) there tame = next_by (is_wild next) tame
      where
        next_by : (wild : Bool) → not wild ≡ true → cond wild (Begins (Escaped next) others)
            (Begins (Plain 0x5C) (next ∷ others)) ≡ Begins (Plain byte) (next ∷ others)
        next_by true tame = cc
        next_by false tame =
            ap (λ b. Begins (Plain b) (next ∷ others)) (sym (eqb-true byte 0x5C there))

    by : (s q b : Bool) → nat_eq byte 0x5C ≡ b → (not (s || q) && not (b && starts_wild rest))
        ≡ true → by_tests s q b byte rest ≡ Begins (Plain byte) rest
    by true q b there own = cc
    by false true b there own = cc
    by false false true there own = after rest there own
    by false false false there own = refl

-- ---- what a mask matches, one part at a time

-- how a mask matches a text, by its front
pub data Step (mask text : List ℕ) : Type 0 where
  at_run : {rest more : List ℕ} (skipped : List ℕ) → front mask ≡ Begins Run rest
      → text ≡ skipped ++ more → Matches rest more → Step mask text
  at_byte : {rest more : List ℕ} {part : Part} {byte : ℕ} → front mask ≡ Begins part rest
      → text ≡ byte ∷ more → IsTrue (accepts part byte) → Matches rest more → Step mask text
  at_end : front mask ≡ Empty → text ≡ [] → Step mask text

pub step : {mask text : List ℕ} → Matches mask text → Step mask text
step (run skipped is split rest) = at_run skipped (ap front is) split rest
step (any is split rest) = at_byte {part = AnyByte} (ap front is) split refl rest
step (escaped {rest = rest} {byte = byte} is wild split more) =
    at_byte {part = Escaped byte} (ap front is ∙ ap (λ w. cond w (Begins (Escaped byte) rest)
    (Begins (Plain 0x5C) (byte ∷ rest))) wild) split (eq-eqb byte byte refl) more
step (plain {rest = rest} {own = own} {byte = byte} is stands split same more) =
    at_byte {part = Plain own} (ap front is ∙ front-itself own rest stands) split
    (eq-eqb (fold own) (fold byte) same) more
step (end is split) = at_end (ap front is) split

pub matches_run : {mask rest text more : List ℕ} (skipped : List ℕ) → front mask ≡ Begins Run rest
    → text ≡ skipped ++ more → Matches rest more → Matches mask text
matches_run {mask} {rest} {text} {more} skipped begins split all = by (spelled mask begins)
  where
    by : Spelled mask Run rest → Matches mask text
    by (star is own) = run skipped is split all
    by (question is own) = cc
    by (backslash byte is wild own) = cc
    by (itself byte is stands own) = cc

pub matches_byte : {mask rest text more : List ℕ} {part : Part} {byte : ℕ}
    → front mask ≡ Begins part rest → text ≡ byte ∷ more → IsTrue (accepts part byte)
    → Matches rest more → Matches mask text
matches_byte {mask} {rest} {text} {more} {part} {byte} begins split accepted all =
    by (spelled mask begins)
  where
    taken : (other : Part) → part ≡ other → accepts other byte ≡ true
    taken other is = ap (λ p. accepts p byte) (sym is) ∙ accepted

    by : Spelled mask part rest → Matches mask text
    by (star is own) = let none : false ≡ true = taken Run own in cc
    by (question is own) = any is split all
    by (backslash wild is rule own) =
        let same : wild ≡ byte = eqb-true wild byte (taken (Escaped wild) own) in
        escaped is rule (split ∙ ap (λ b. b ∷ more) (sym same)) all
    by (itself first is rule own) =
        plain is rule split (eqb-true (fold first) (fold byte) (taken (Plain first) own)) all

pub matches_end : {mask text : List ℕ} → front mask ≡ Empty → text ≡ [] → Matches mask text
matches_end {mask} empty split = end (front-empty mask empty) split

-- the mask after the first part is shorter
pub begins-shorter : (mask : List ℕ) {part : Part} {rest : List ℕ} → front mask ≡ Begins part rest
    → length rest < length mask
begins-shorter mask {part} {rest} begins = by (spelled mask begins)
  where
    by : Spelled mask part rest → length rest < length mask
    by (star is own) = let long = ap length is in omega arith
    by (question is own) = let long = ap length is in omega arith
    by (backslash byte is wild own) = let long = ap length is in omega arith
    by (itself byte is stands own) = let long = ap length is in omega arith
