-- How a mask matches, one step at a time: what the front of the mask asks of the text, and what a
-- search that went one step further knows.
use Rattle.std.proofs.Common.{Bor, ◌≡◌, ◌≢◌, ℕ, ◌+◌, ◌<◌, ◌≤◌, true, List, [], ◌∷◌, ◌++◌, length}
use Rattle.std.proofs.Common.{refl, sym, ap, subst, ◌∙◌, append_assoc, arith}
use Rattle.irc_names.specs.Masks.{Matches}
use Rattle.irc_names.specs.Loops.Fronts.{Empty, Begins, front, accepts}
use Rattle.irc_names.specs.Loops.FrontLaws.{matches_byte, matches_end}
use Rattle.irc_names.specs.MaskLaws.{Somewhere, somewhere_here, somewhere_after, somewhere_past}
use Rattle.irc_names.specs.MaskLaws.{run-sound, run-complete, TakesOne, one-complete, end-complete}
use Rattle.irc_names.specs.Loops.Walks.{RestsOn, Tells, IsFirst}
use Rattle.irc_names.specs.declared.matching.Part.{Part}
use Rattle.irc_names.specs.declared.matching.Part.TheVariants.{Run}
use Rattle.irc_names.specs.declared.matching.Walk.{Walk}
use Rattle.irc_names.specs.declared.matching.Walk.TheVariants.{Star, Done, Differs}

-- ---- a mask followed along a text

-- a mask and a text match just where what is left of both does
pub record Follows (mask text mask_left text_left : List ℕ) : Type 0 where
  pub sound : Matches mask_left text_left → Matches mask text
  pub complete : Matches mask text → Matches mask_left text_left
  pub later : Somewhere mask text → Somewhere mask_left text_left
  pub shorter : length mask_left ≤ length mask

-- one byte further, a later place is still one
later_one : {part : Part} {mask rest : List ℕ} (byte : ℕ) (more : List ℕ) → front mask
    ≡ Begins part rest → part ≢ Run → Somewhere mask (byte ∷ more) → Somewhere rest more
later_one {part} {mask} {rest} byte more begins other here = by here.skipped here.split
  where
    next : TakesOne part rest here.more
    next = one-complete begins other here.matches

    by : (skipped : List ℕ) → byte ∷ more ≡ skipped ++ here.more → Somewhere rest more
    by [] split =
        let next_split : here.more ≡ next.byte ∷ next.more = next.split in
        let same : next.more ≡ more = cc in
        somewhere_here (subst (λ t. Matches rest t) same next.matches)
    by (first ∷ skipped) split =
        let next_split : here.more ≡ next.byte ∷ next.more = next.split in
        let left : more ≡ skipped ++ here.more = cc in
        let again : more ≡ (skipped ++ next.byte ∷ []) ++ next.more =
        left ∙ ap (λ t. skipped ++ t) next_split
        ∙ sym (append_assoc skipped (next.byte ∷ []) next.more) in
        somewhere_after (skipped ++ next.byte ∷ []) again (somewhere_here next.matches)

pub follows_one : {part : Part} {mask text mask_left text_left mask_after text_after : List ℕ}
    {byte : ℕ} → front mask_left ≡ Begins part mask_after → part ≢ Run → text_left
    ≡ byte ∷ text_after → accepts part byte ≡ true → length mask_after < length mask_left
    → Follows mask text mask_left text_left → Follows mask text mask_after text_after
follows_one {part} {mask} {text} {mask_left} {text_left} {mask_after} {text_after} {byte} begins
    other split accepted less so_far = record {
      sound = λ m. so_far.sound (matches_byte begins split accepted m);
      complete = λ m. go (one-complete begins other (so_far.complete m));
      later = λ m. later_one byte text_after begins other
          (subst (λ t. Somewhere mask_left t) split (so_far.later m));
      shorter = omega (arith, so_far.shorter);
    }
  where
    go : TakesOne part mask_after text_left → Matches mask_after text_after
    go next =
        let next_split : text_left ≡ next.byte ∷ next.more = next.split in
        let same : next.more ≡ text_after = cc in
        subst (λ t. Matches mask_after t) same next.matches

-- at a `*`
pub rests_on_star : {part : Part} {mask text mask_left text_left mask_after : List ℕ}
    → front mask_left ≡ Begins part mask_after → part ≡ Run → Follows mask text mask_left text_left
    → RestsOn mask_after text_left (Matches mask text)
rests_on_star {part} {mask} {text} {mask_left} {text_left} {mask_after} begins star so_far =
    let begins_run : front mask_left ≡ Begins Run mask_after = cc in
    record {
      sound = λ here. so_far.sound (run-sound begins_run here);
      complete = λ all. run-complete begins_run (so_far.complete all);
    }

pub first_at_star : {part : Part} {mask text mask_left text_left mask_after : List ℕ}
    → front mask_left ≡ Begins part mask_after → part ≡ Run → Follows mask text mask_left text_left
    → Somewhere mask text → Somewhere mask_after text_left
first_at_star {part} {mask} {text} {mask_left} {text_left} {mask_after} begins star so_far here =
    let begins_run : front mask_left ≡ Begins Run mask_after = cc in
    let left : Somewhere mask_left text_left = so_far.later here in
    somewhere_after left.skipped left.split (run-complete begins_run left.matches)

-- at the end of the mask
pub matches_at_end : {mask text mask_left text_left : List ℕ} → front mask_left ≡ Empty
    → text_left ≡ [] → Follows mask text mask_left text_left → Matches mask text
matches_at_end empty none so_far = so_far.sound (matches_end empty none)

pub differs_after_end : {mask text mask_left text_left : List ℕ} → front mask_left ≡ Empty
    → text_left ≢ [] → Follows mask text mask_left text_left → ¬ (Matches mask text)
differs_after_end empty some so_far all = some (end-complete empty (so_far.complete all))

-- ---- the first place

-- a mask matches some end of a text just where it matches some end of what is left
pub record Seeks (mask text rest : List ℕ) : Type 0 where
  pub sound : Somewhere mask rest → Somewhere mask text
  pub complete : Somewhere mask text → Somewhere mask rest

pub seeks_more : {mask text rest more : List ℕ} {byte : ℕ} → rest ≡ byte ∷ more
    → ¬ (Matches mask rest) → Seeks mask text rest → Seeks mask text more
seeks_more {mask} {text} {rest} {more} {byte} split differs so_far = record {
  sound = λ here. so_far.sound (somewhere_after (byte ∷ []) split here);
  complete = λ here. somewhere_past byte more (subst (λ t. ¬ (Matches mask t)) split differs)
      (subst (λ t. Somewhere mask t) split (so_far.complete here));
}

-- ---- what a walk tells

-- what holds of a whole text at the first place where the mask can be followed
pub tells_first : {mask text rest : List ℕ} (walk : Walk) → walk ≢ Differs → Seeks mask text rest
    → Tells walk (Matches mask rest) → IsFirst walk mask rest → Tells walk (Somewhere mask text)
tells_first (Star after left) other so_far told first = record {
  sound = λ here. so_far.sound (somewhere_here (told.sound here));
  complete = λ here. first (so_far.complete here);
}
tells_first Done other so_far told first = so_far.sound (somewhere_here told)
tells_first Differs other so_far told first = absurd (other refl)

-- how much of a mask is left at a `*`, and the `*`
abbrev pub length_left : Walk → ℕ
length_left (Star rest left) = length rest.now + 1
length_left Done = 0
length_left Differs = 0

-- what a mask and a text are told by where the last walk stands
pub answer_done : {mask text : List ℕ} (walk : Walk) → walk ≡ Done → Tells walk (Matches mask text)
    → Matches mask text
answer_done (Star rest left) is told = cc
answer_done Done is told = told
answer_done Differs is told = cc

pub answer_differs : {mask text : List ℕ} (walk : Walk)
    → ((rest left : Bor (List ℕ)) → walk ≡ Star rest left → ⊥) → (walk ≡ Done → ⊥)
    → Tells walk (Matches mask text) → ¬ (Matches mask text)
answer_differs (Star rest left) not_star not_done told = absurd (not_star rest left refl)
answer_differs Done not_star not_done told = absurd (not_done refl)
answer_differs Differs not_star not_done told = told
