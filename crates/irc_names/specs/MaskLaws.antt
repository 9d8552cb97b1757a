-- `matches`, the test that tells whether a mask matches a text, and that it does tell it.
use Rattle.std.specs.Prelude.{◌≡◌, ◌≢◌, ℕ, ◌<◌, Bool, true, false, ◌⊎◌, List, [], ◌∷◌, ◌++◌, length}
use Rattle.std.specs.Prelude.{IsTrue}
use Rattle.std.proofs.Common.{refl, sym, ap, subst, ◌∙◌, append_assoc, arith, inl, inr, suc, zero}
use Rattle.std.specs.Bool.{Decides}
use Rattle.irc_names.specs.Masks.{Matches}
use Rattle.irc_names.specs.Loops.Fronts.{Front, Empty, Begins, front, accepts}
use Rattle.irc_names.specs.Loops.FrontLaws.{Step, at_run, at_byte, at_end, step, matches_run}
use Rattle.irc_names.specs.Loops.FrontLaws.{matches_byte, matches_end, begins-shorter}
use Rattle.irc_names.specs.declared.matching.Part.{Part}
use Rattle.irc_names.specs.declared.matching.Part.TheVariants.{Run, AnyByte, Escaped, Plain}

-- ---- some end of a text

-- a mask matches some end of a text: what a `*` before the mask asks
pub record Somewhere (mask text : List ℕ) : Type 0 where
  pub skipped : List ℕ
  pub more : List ℕ
  pub split : text ≡ skipped ++ more
  pub matches : Matches mask more

pub somewhere_here : {mask text : List ℕ} → Matches mask text → Somewhere mask text
somewhere_here {mask} {text} matches = record {
  skipped = [];
  more = text;
  split = refl;
  matches = matches;
}

pub somewhere_after : {mask text more : List ℕ} (skipped : List ℕ) → text ≡ skipped ++ more
    → Somewhere mask more → Somewhere mask text
somewhere_after {mask} {text} {more} skipped split here = record {
  skipped = skipped ++ here.skipped;
  more = here.more;
  split = split ∙ ap (λ rest. skipped ++ rest) here.split
      ∙ sym (append_assoc skipped here.skipped here.more);
  matches = here.matches;
}

-- where a mask matches some end of a text, and not the whole, it matches some end of what follows
-- the first byte
pub somewhere_past : {mask : List ℕ} (byte : ℕ) (more : List ℕ) → ¬ (Matches mask (byte ∷ more))
    → Somewhere mask (byte ∷ more) → Somewhere mask more
somewhere_past {mask} byte more differs here = by here.skipped here.split
  where
    by : (skipped : List ℕ) → byte ∷ more ≡ skipped ++ here.more → Somewhere mask more
    by [] split = absurd (differs (subst (λ t. Matches mask t) (sym split) here.matches))
    by (first ∷ skipped) split =
        let left : more ≡ skipped ++ here.more = cc in
        record { skipped = skipped; more = here.more; split = left; matches = here.matches }

-- the empty text has one end
pub somewhere_in_nothing : {mask : List ℕ} → Somewhere mask [] → Matches mask []
somewhere_in_nothing {mask} here = by here.skipped here.split
  where
    by : (skipped : List ℕ) → [] ≡ skipped ++ here.more → Matches mask []
    by [] split = subst (λ t. Matches mask t) (sym split) here.matches
    by (first ∷ skipped) split = cc

-- ---- what the front of a mask asks

pub run-sound : {mask rest text : List ℕ} → front mask ≡ Begins Run rest → Somewhere rest text
    → Matches mask text
run-sound begins here = matches_run here.skipped begins here.split here.matches

pub run-complete : {mask rest text : List ℕ} → front mask ≡ Begins Run rest → Matches mask text
    → Somewhere rest text
run-complete {mask} {rest} {text} begins all = by (step all)
  where
    by : Step mask text → Somewhere rest text
    by (at_run {rest = own} {more = more} skipped own_begins split matches) =
        let same : own ≡ rest = cc in
        record {
          skipped = skipped;
          more = more;
          split = split;
          matches = subst (λ r. Matches r more) same matches;
        }
    by (at_byte {part = part} {byte = byte} own_begins split accepted matches) =
        let same : part ≡ Run = cc in
        let taken : false ≡ true = subst (λ p. accepts p byte ≡ true) same accepted in
        cc
    by (at_end empty split) = cc

-- a text whose first byte a part takes, and the mask after it matches the rest
pub record TakesOne (part : Part) (rest text : List ℕ) : Type 0 where
  pub byte : ℕ
  pub more : List ℕ
  pub split : text ≡ byte ∷ more
  pub accepted : IsTrue (accepts part byte)
  pub matches : Matches rest more

pub one-complete : {part : Part} {mask rest text : List ℕ} → front mask ≡ Begins part rest
    → part ≢ Run → Matches mask text → TakesOne part rest text
one-complete {part} {mask} {rest} {text} begins other all = by (step all)
  where
    by : Step mask text → TakesOne part rest text
    by (at_run skipped own_begins split matches) =
        let same : part ≡ Run = cc in
        absurd (other same)
    by (at_byte {rest = own_rest} {more = more} {part = own} {byte = byte} own_begins split accepted
        matches) =
        let same_part : own ≡ part = cc in
        let same_rest : own_rest ≡ rest = cc in
        record {
          byte = byte;
          more = more;
          split = split;
          accepted = subst (λ p. IsTrue (accepts p byte)) same_part accepted;
          matches = subst (λ r. Matches r more) same_rest matches;
        }
    by (at_end empty split) = cc

pub end-complete : {mask text : List ℕ} → front mask ≡ Empty → Matches mask text → text ≡ []
end-complete {mask} {text} empty all = by (step all)
  where
    by : Step mask text → text ≡ []
    by (at_run skipped begins split matches) = cc
    by (at_byte begins split accepted matches) = cc
    by (at_end own_empty split) = split

-- no text is left for a part that takes one byte
pub differs_at_end : {part : Part} {mask rest text : List ℕ} → front mask ≡ Begins part rest
    → part ≢ Run → text ≡ [] → ¬ (Matches mask text)
differs_at_end begins other none matches =
    let next = one-complete begins other matches in
    let split = next.split in
    cc

-- the first byte that is left is not one that the part takes
pub differs_at_byte : {part : Part} {byte : ℕ} {mask rest text more : List ℕ}
    → front mask ≡ Begins part rest → part ≢ Run → text ≡ byte ∷ more → accepts part byte ≡ false
    → ¬ (Matches mask text)
differs_at_byte {part} {byte} begins other split refused matches =
    let next = one-complete begins other matches in
    let next_split = next.split in
    let same : next.byte ≡ byte = cc in
    let accepted : accepts part byte ≡ true =
    subst (λ b. accepts part b ≡ true) same next.accepted in
    cc

-- ---- whether a mask matches

-- it matches, or it does not
abbrev pub Decided : List ℕ → List ℕ → Type 0
Decided mask text = Matches mask text ⊎ ¬ (Matches mask text)

somewhere_decided : (mask : List ℕ) → ((text : List ℕ) → Decided mask text) → (text : List ℕ)
    → Somewhere mask text ⊎ ¬ (Somewhere mask text)
somewhere_decided mask each [] = elim (each []) [
  | inl held ↦ inl (somewhere_here held)
  | inr failed ↦ inr (λ here. failed (somewhere_in_nothing here))
]
somewhere_decided mask each (byte ∷ more) = elim (each (byte ∷ more)) [
  | inl held ↦ inl (somewhere_here held)
  | inr failed ↦ elim (somewhere_decided mask each more) [
    | inl later ↦ inl (somewhere_after (byte ∷ []) refl later)
    | inr never ↦ inr (λ here. never (somewhere_past byte more failed here))
  ]
]

one_decided : {part : Part} {mask rest : List ℕ} → front mask ≡ Begins part rest → part ≢ Run
    → ((text : List ℕ) → Decided rest text) → (text : List ℕ) → Decided mask text
one_decided begins other each [] = inr (differs_at_end begins other refl)
one_decided {part} {mask} {rest} begins other each (byte ∷ more) = by (accepts part byte) refl
  where
    left : TakesOne part rest (byte ∷ more) → Matches rest more
    left next =
        let split : byte ∷ more ≡ next.byte ∷ next.more = next.split in
        let same : next.more ≡ more = cc in
        subst (λ t. Matches rest t) same next.matches

    by : (test : Bool) → accepts part byte ≡ test → Decided mask (byte ∷ more)
    by false refused = inr (differs_at_byte begins other refl refused)
    by true accepted = elim (each more) [
      | inl held ↦ inl (matches_byte begins refl accepted held)
      | inr failed ↦ inr (λ all. failed (left (one-complete begins other all)))
    ]

decided_by_front : (mask : List ℕ)
    → ((rest : List ℕ) → length rest < length mask → (text : List ℕ) → Decided rest text)
    → (text : List ℕ) (found : Front) → front mask ≡ found → Decided mask text
decided_by_front mask shorter [] Empty empty = inl (matches_end empty refl)
decided_by_front mask shorter (byte ∷ more) Empty empty =
    inr (λ all. let none : byte ∷ more ≡ [] = end-complete empty all in cc)
decided_by_front mask shorter text (Begins Run rest) begins =
    elim (somewhere_decided rest (shorter rest (begins-shorter mask begins)) text) [
      | inl here ↦ inl (run-sound begins here)
      | inr never ↦ inr (λ all. never (run-complete begins all))
    ]
decided_by_front mask shorter text (Begins AnyByte rest) begins =
    one_decided begins (λ e. cc) (shorter rest (begins-shorter mask begins)) text
decided_by_front mask shorter text (Begins (Escaped own) rest) begins =
    one_decided begins (λ e. cc) (shorter rest (begins-shorter mask begins)) text
decided_by_front mask shorter text (Begins (Plain own) rest) begins =
    one_decided begins (λ e. cc) (shorter rest (begins-shorter mask begins)) text

decided_within : (limit : ℕ) (mask : List ℕ) → length mask < limit → (text : List ℕ)
    → Decided mask text
decided_within zero mask within text = absurd (omega arith)
decided_within (suc limit) mask within text =
    decided_by_front mask (λ rest less t. decided_within limit rest (omega arith) t) text
    (front mask) refl

-- a mask matches a text, or it does not
pub decided : (mask text : List ℕ) → Decided mask text
decided mask text = decided_within (suc (length mask)) mask (omega arith) text

test_of : {P : Type 0} → P ⊎ ¬ P → Bool
test_of (inl held) = true
test_of (inr failed) = false

-- whether a mask matches a text
pub matches : List ℕ → List ℕ → Bool
matches mask text = test_of (decided mask text)

test_tells : {P : Type 0} (either : P ⊎ ¬ P) → Decides (test_of either) P
unfolding test_of
test_tells (inl held) = (λ e. held, λ p. refl)
test_tells (inr failed) = (λ e. cc, λ p. absurd (failed p))

pub matches-tells : (mask text : List ℕ) → Decides (matches mask text) (Matches mask text)
unfolding matches
matches-tells mask text = test_tells (decided mask text)

pub matches_true : (mask text : List ℕ) → Matches mask text → true ≡ matches mask text
matches_true mask text all = sym ((matches-tells mask text).1 all)

pub matches_false : (mask text : List ℕ) → ¬ (Matches mask text) → false ≡ matches mask text
matches_false mask text differs = by (matches mask text) refl
  where
    by : (test : Bool) → matches mask text ≡ test → false ≡ matches mask text
    by true is = absurd (differs ((matches-tells mask text).0 is))
    by false is = sym is
