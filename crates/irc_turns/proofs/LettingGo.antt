-- Some are let go, one after another.
use Rattle.std.proofs.Common.{◌≡◌, ◌≢◌, ℕ, ◌-◌, ◌<◌, ◌==◌, Bool, true, false, not, ◌&&◌}
use Rattle.std.proofs.Common.{nat_eq, Option, Some, None, List, length, get_or, refl, sym, ◌∙◌, ap}
use Rattle.std.proofs.Common.{subst, arith}
use Rattle.std.proofs.lemmas.Bool.{eqb-true, eqb-false, not_from_true, not-false}
use Rattle.std.proofs.lemmas.List.{get_or-take, get_or-set_other}
use Rattle.std.proofs.lemmas.Option.{slice_get-get_or}
use Rattle.std.specs.List.{slice_get, swap_remove}
use Rattle.slab.specs.Slab.{Slab, get, with_value}
use Rattle.slab.proofs.SlabLemmas.{Updates-with_value}
use Rattle.std.specs.Option.{IsSome}
use Rattle.irc_brakes.specs.Reading.{is_read_beside}
use Rattle.irc_turns.specs.HeldBack.{may_wait_at}
use Rattle.irc_turns.specs.declared.allowance.LinesPace.{LinesPace}
use Rattle.irc_turns.specs.declared.holding.Held.{Held}
use Rattle.irc_turns.specs.declared.holding.Reason.{Reason}
use Rattle.irc_turns.specs.declared.holding.Reason.TheVariants.{OthersFull, Grown, Filled, Paced}
use Rattle.irc_turns.specs.declared.talker.Talker.{Talker}
use Rattle.irc_turns.specs.Numbered.{NumberedTalkers, talker_at, talker_changed_if}
use Rattle.irc_turns.specs.Numbered.{talker_changed_at, tried_again, tried_for, let_go_one, is_due}
use Rattle.irc_turns.specs.Numbered.{is_due_for, is_grown_one, is_filled_one, is_paced_one}
use Rattle.irc_turns.specs.Talking.{held_no_more}

-- ---- those before the place from which one was taken stay

pub before_place : (xs : List Held) (i k : ℕ) (last d : Held) → k < i → i < length xs
    → get_or (swap_remove xs i last) k d ≡ get_or xs k d
before_place xs i k last d before within =
    get_or-take (length xs - 1) _ k d (omega arith) ∙ get_or-set_other xs i k _ d (apart k i before)
  where
    apart : (k i : ℕ) → k < i → k ≢ i
    apart k i before same = omega arith

-- ---- what is true of a talker, and was before a change of one

written : (is : Option Talker → Bool) (slab : Slab Talker) (number n : ℕ) (old new : Talker)
    → get slab number ≡ Some old → (is (Some new) ≡ true → is (Some old) ≡ true)
    → is (get (with_value slab number new) n) ≡ true → is (get slab n) ≡ true
written is slab number n old new there keeps now =
    let changes = Updates-with_value slab number new (subst (λ o. IsSome o) (sym there) refl) in
    elim (n == number) as (λ b. (n == number) ≡ b → is (get slab n) ≡ true) [
      | true ↦ λ (e : (n == number) ≡ true).
          let same = eqb-true n number e in
          ap (λ k. is (get slab k)) same ∙ ap is there
          ∙ keeps (sym (ap (λ k. is (get (with_value slab number new) k)) same
          ∙ ap is changes.changed) ∙ now)
      | false ↦ λ (e : (n == number) ≡ false). ap is
          (sym (changes.others n (eqb-false n number e))) ∙ now
    ] refl

changed_if : (is : Option Talker → Bool) (change : Talker → Talker) (number n : ℕ)
    (slab : Slab Talker) (slot : Option Talker) → get slab number ≡ slot
    → ((s : Talker) → is (Some (change s)) ≡ true → is (Some s) ≡ true)
    → is (get (talker_changed_if change number slab slot) n) ≡ true → is (get slab n) ≡ true
changed_if is change number n slab None there keeps now = now
changed_if is change number n slab (Some talker) there keeps now =
    written is slab number n talker (change talker) there (keeps talker) now

changed : (is : Option Talker → Bool) (change : Talker → Talker) (number n : ℕ)
    (slab : Slab Talker) → ((s : Talker) → is (Some (change s)) ≡ true → is (Some s) ≡ true)
    → is (get (talker_changed_at change number slab) n) ≡ true → is (get slab n) ≡ true
changed is change number n slab keeps now =
    changed_if is change number n slab _ refl keeps now

-- ---- as one is let go

tried : (is : Option Talker → Bool) (why : Reason) (talkers : NumberedTalkers) (n : ℕ)
    → ((s : Talker) → is (Some (tried_again s)) ≡ true → is (Some s) ≡ true)
    → is (talker_at (tried_for why talkers) n) ≡ true → is (talker_at talkers n) ≡ true
tried is OthersFull talkers n keeps now = now
tried is (Grown mark) talkers n keeps now = now
tried is (Filled mark) talkers n keeps now =
    changed is tried_again mark.number n talkers.by_number keeps now
tried is Paced talkers n keeps now = now

same_full : (why : Reason) (talkers : NumberedTalkers) → (tried_for why talkers).full ≡ talkers.full
same_full OthersFull talkers = refl
same_full (Grown mark) talkers = refl
same_full (Filled mark) talkers = refl
same_full Paced talkers = refl

same_marks : (why : Reason) (talkers : NumberedTalkers)
    → (tried_for why talkers).marks ≡ talkers.marks
same_marks OthersFull talkers = refl
same_marks (Grown mark) talkers = refl
same_marks (Filled mark) talkers = refl
same_marks Paced talkers = refl

same_pace : (why : Reason) (talkers : NumberedTalkers) → (tried_for why talkers).pace ≡ talkers.pace
same_pace OthersFull talkers = refl
same_pace (Grown mark) talkers = refl
same_pace (Filled mark) talkers = refl
same_pace Paced talkers = refl

-- what is true of a talker behind that was before
before : (is : Option Talker → Bool) (place : ℕ) (gone : Held) (talkers : NumberedTalkers) (n : ℕ)
    → ((s : Talker) → is (Some (held_no_more s)) ≡ true → is (Some s) ≡ true)
    → ((s : Talker) → is (Some (tried_again s)) ≡ true → is (Some s) ≡ true)
    → is (talker_at (let_go_one place gone talkers) n) ≡ true → is (talker_at talkers n) ≡ true
before is place gone talkers n asked again now =
    tried is gone.reason talkers n again
    (changed is held_no_more gone.who n (tried_for gone.reason talkers).by_number asked now)

not_both : (b : Bool) → (b && false) ≡ true → ⊥
not_both true e = cc e
not_both false e = cc e

both_kept : (may b c : Bool) → (b ≡ true → c ≡ true) → not (may && b) ≡ false
    → not (may && c) ≡ false
both_kept true b c keeps e = not_from_true c (keeps (not-false b e))
both_kept false b c keeps e = cc e

-- nothing that lets others go changes how much one may say
let_go_says : (pace : Option LinesPace) (now : ℕ) (s : Talker)
    → is_paced_one pace now (Some (held_no_more s)) ≡ is_paced_one pace now (Some s)
let_go_says None now s = refl
let_go_says (Some pace) now s = refl

tried_says : (pace : Option LinesPace) (now : ℕ) (s : Talker)
    → is_paced_one pace now (Some (tried_again s)) ≡ is_paced_one pace now (Some s)
tried_says None now s = refl
tried_says (Some pace) now s = refl

waits : (now place : ℕ) (gone held : Held) (why : Reason) (talkers : NumberedTalkers)
    → is_due_for now (let_go_one place gone talkers) held why ≡ false
    → is_due_for now talkers held why ≡ false
waits now place gone held OthersFull talkers not_due =
    ap (λ full. is_read_beside nat_eq full held.who) (sym (same_full gone.reason talkers)) ∙ not_due
waits now place gone held (Grown mark) talkers not_due =
    not_from_true _
    (before (is_grown_one talkers.marks mark) place gone talkers mark.number (λ s e. e)
    (λ s e. e)
    (ap (λ marks. is_grown_one marks mark (talker_at (let_go_one place gone talkers) mark.number))
    (sym (same_marks gone.reason talkers)) ∙ not-false _ not_due))
waits now place gone held (Filled mark) talkers not_due =
    both_kept (may_wait_at now held) _ _
    (before (is_filled_one mark) place gone talkers mark.number (λ s e. e)
    (λ s e. absurd (not_both _ e))) not_due
waits now place gone held Paced talkers not_due =
    not_from_true _ (before (is_paced_one talkers.pace now) place gone talkers held.who
    (λ s e. sym (let_go_says talkers.pace now s) ∙ e)
    (λ s e. sym (tried_says talkers.pace now s) ∙ e)
    (ap (λ pace. is_paced_one pace now (talker_at (let_go_one place gone talkers) held.who))
    (sym (same_pace gone.reason talkers)) ∙ not-false _ not_due))

-- whoever is not due then was not due before
pub still_waits : (now place : ℕ) (gone held : Held) (old new : NumberedTalkers)
    → new ≡ let_go_one place gone old → is_due now new held ≡ false → is_due now old held ≡ false
still_waits now place gone held old new left not_due =
    waits now place gone held held.reason old
    (ap (λ (s : NumberedTalkers). is_due now s held) (sym left) ∙ not_due)

pub same_holding : (place : ℕ) (gone : Held) (old new : NumberedTalkers)
    → new ≡ let_go_one place gone old → new.holding ≡ swap_remove old.holding place gone
same_holding place gone old new left = ap (λ (s : NumberedTalkers). s.holding) left

-- ---- who is held at a place

abbrev due_of : ℕ → NumberedTalkers → Option Held → Bool
due_of now talkers None = false
due_of now talkers (Some held) = is_due now talkers held

pub same_due : (now : ℕ) (talkers : NumberedTalkers) (slot : Option Held) (one other : Held)
    → slot ≡ Some one → slot ≡ Some other → is_due now talkers one ≡ is_due now talkers other
same_due now talkers slot one other here there = ap (due_of now talkers) (sym here ∙ there)

pub due_at : (now : ℕ) (talkers : NumberedTalkers) (xs : List Held) (place : ℕ) (held d : Held)
    → place < length xs → slice_get xs place ≡ Some held
    → is_due now talkers (get_or xs place d) ≡ is_due now talkers held
due_at now talkers xs place held d within there =
    ap (due_of now talkers) (sym (slice_get-get_or xs place d within) ∙ there)
