-- Where a mask stands in a list of bans, and what the list is with it and without it.
use Rattle.std.proofs.Common.{◌≡◌, ℕ, ◌<◌, Bool, true, false, cond, not, ◌||◌, Some, None}
use Rattle.std.proofs.Common.{List, [], ◌∷◌, ◌++◌, length, get_or, filter, refl, sym, ap, ◌∙◌}
use Rattle.std.proofs.Common.{is_some, suc, zero, ◌+◌, nat_lt, arith}
use Rattle.std.proofs.lemmas.Bool.Decides.{nat_tests}
use Rattle.std.proofs.lemmas.List.Quantifiers.{position-Some}
use Rattle.std.specs.List.{list_any, list_all, position, position_or_len, insert, remove}
use Rattle.std.specs.Ordering.{is_lt, is_eq, ordering_reverse}
use Rattle.std.specs.declared.cmp.Ordering.{Ordering}
use Rattle.std.specs.declared.cmp.Ordering.TheVariants.{Less, Equal, Greater}
use Rattle.std.specs.Cmp.{first_so, second_so}
use Rattle.std.proofs.lemmas.Bool.{and_from}
use Rattle.irc_names.specs.Lemmas.PlainFacts.{list_all-filter, list_all-at}
use Rattle.irc_names.specs.Fold.{same, name_cmp}
use Rattle.irc_names.specs.FoldLaws.{name_cmp-total, same-ties}
use Rattle.irc_modes.specs.Bans.{before, rises}
use Rattle.irc_modes.specs.Modes.{with_ban, without_ban}

-- on which side of a mask a ban stands
pub data Side (mask ban : List ℕ) : Type 0 where
  low : before ban mask ≡ true → before mask ban ≡ false → same mask ban ≡ false → Side mask ban
  level : name_cmp mask ban ≡ Equal → before ban mask ≡ false → before mask ban ≡ false
      → same mask ban ≡ true → Side mask ban
  high : before ban mask ≡ false → before mask ban ≡ true → same mask ban ≡ false → Side mask ban

pub side : (mask ban : List ℕ) → Side mask ban
side mask ban = by (name_cmp mask ban) refl
  where
    back : (order : Ordering) → name_cmp mask ban ≡ order
        → before ban mask ≡ is_lt (ordering_reverse order)
    back order is = ap is_lt (name_cmp-total.antisymm ban mask ∙ ap ordering_reverse is)

    by : (order : Ordering) → name_cmp mask ban ≡ order → Side mask ban
    by Less is = high (back Less is) (ap is_lt is) (same-ties mask ban ∙ ap is_eq is)
    by Equal is = level is (back Equal is) (ap is_lt is) (same-ties mask ban ∙ ap is_eq is)
    by Greater is = low (back Greater is) (ap is_lt is) (same-ties mask ban ∙ ap is_eq is)

less_is : (order : Ordering) → is_lt order ≡ true → order ≡ Less
less_is Less is = refl
less_is Equal is = cc
less_is Greater is = cc

before-trans : (a b c : List ℕ) → before a b ≡ true → before b c ≡ true → before a c ≡ true
before-trans a b c ab bc =
    ap is_lt (name_cmp-total.trans a b c (less_is (name_cmp a b) ab) (less_is (name_cmp b c) bc))

-- what stands before a ban stands before those after it
all_after : (mask ban : List ℕ) (bans : List (List ℕ)) → before mask ban ≡ true
    → list_all (before ban) bans ≡ true → list_all (before mask) bans ≡ true
all_after mask ban [] first all = refl
all_after mask ban (next ∷ bans) first all =
    and_from (before mask next) (list_all (before mask) bans)
    (before-trans mask ban next first (first_so (before ban next) (list_all (before ban) bans) all))
    (all_after mask ban bans first (second_so (before ban next) (list_all (before ban) bans) all))

all_level : (mask ban : List ℕ) (bans : List (List ℕ)) → name_cmp mask ban ≡ Equal
    → list_all (before ban) bans ≡ true → list_all (before mask) bans ≡ true
all_level mask ban [] equal all = refl
all_level mask ban (next ∷ bans) equal all =
    and_from (before mask next) (list_all (before mask) bans)
    (ap is_lt (name_cmp-total.congr mask ban next equal)
    ∙ first_so (before ban next) (list_all (before ban) bans) all)
    (all_level mask ban bans equal (second_so (before ban next) (list_all (before ban) bans) all))

-- where a mask stands before all bans, none stands before it, and none is the same
record Ahead (mask : List ℕ) (bans : List (List ℕ)) : Type 0 where
  none_low : filter (λ ban. before ban mask) bans ≡ []
  all_high : filter (before mask) bans ≡ bans
  all_other : filter (λ ban. not (same mask ban)) bans ≡ bans

ahead : (mask : List ℕ) (bans : List (List ℕ)) → list_all (before mask) bans ≡ true
    → Ahead mask bans
ahead mask [] all = record { none_low = refl; all_high = refl; all_other = refl }
ahead mask (ban ∷ bans) all =
    by (side mask ban) (first_so (before mask ban) (list_all (before mask) bans) all)
    (ahead mask bans (second_so (before mask ban) (list_all (before mask) bans) all))
  where
    by : Side mask ban → before mask ban ≡ true → Ahead mask bans → Ahead mask (ban ∷ bans)
    by (low lower not_high other) first rest = cc
    by (level equal not_low not_high alike) first rest = cc
    by (high not_low higher other) first rest = record {
      none_low = rw (not_low) (rest.none_low);
      all_high = rw (higher) (ap (λ xs. ban ∷ xs) rest.all_high);
      all_other = rw (other) (ap (λ xs. ban ∷ xs) rest.all_other);
    }

-- ---- a mask in its place

-- the bans with a mask in front of the first that does not stand before it
abbrev pub placed : List ℕ → List (List ℕ) → List (List ℕ)
placed mask [] = mask ∷ []
placed mask (ban ∷ bans) = cond (before ban mask) (ban ∷ placed mask bans) (mask ∷ ban ∷ bans)

-- how many bans stand before a mask
abbrev pub place : List ℕ → List (List ℕ) → ℕ
place mask bans = length (filter (λ ban. before ban mask) bans)

-- a mask that is the same as no ban: what the list is with it
pub record Placed (mask : List ℕ) (bans : List (List ℕ)) : Type 0 where
  pub is_insert : insert bans (place mask bans) mask ≡ placed mask bans
  pub is_parts : filter (λ ban. before ban mask) bans ++ mask ∷ filter (before mask) bans
      ≡ placed mask bans
  pub still_rises : rises (placed mask bans) ≡ true

all_placed : (ban mask : List ℕ) (bans : List (List ℕ)) → before ban mask ≡ true
    → list_all (before ban) bans ≡ true → list_all (before ban) (placed mask bans) ≡ true
all_placed ban mask [] first all = and_from (before ban mask) true first refl
all_placed ban mask (next ∷ bans) first all =
    by (before next mask) (first_so (before ban next) (list_all (before ban) bans) all)
    (all_placed ban mask bans first (second_so (before ban next) (list_all (before ban) bans) all))
  where
    by : (test : Bool) → before ban next ≡ true → list_all (before ban) (placed mask bans) ≡ true
        → list_all (before ban) (cond test (next ∷ placed mask bans) (mask ∷ next ∷ bans)) ≡ true
    by true here rest =
        and_from (before ban next) (list_all (before ban) (placed mask bans)) here rest
    by false here rest = and_from (before ban mask) (list_all (before ban) (next ∷ bans)) first all

pub places : (mask : List ℕ) (bans : List (List ℕ)) → rises bans ≡ true
    → list_any (same mask) bans ≡ false → Placed mask bans
places mask [] rising none = record { is_insert = refl; is_parts = refl; still_rises = refl }
places mask (ban ∷ bans) rising none =
    by (side mask ban) (first_so (list_all (before ban) bans) (rises bans) rising)
    (second_so (list_all (before ban) bans) (rises bans) rising) none
    (λ rest others. places mask bans rest others)
  where
    by : Side mask ban → list_all (before ban) bans ≡ true → rises bans ≡ true
        → (same mask ban || list_any (same mask) bans) ≡ false → (rises bans ≡ true
        → list_any (same mask) bans ≡ false → Placed mask bans) → Placed mask (ban ∷ bans)
    by (level equal not_low not_high alike) all rest none later = cc
    by (low lower not_high other) all rest none later =
        let deeper = later rest (sym (ap (λ b. b || list_any (same mask) bans) other) ∙ none) in
        record {
          is_insert = rw (lower) (ap (λ xs. ban ∷ xs) deeper.is_insert);
          is_parts = rw (lower, not_high) (ap (λ xs. ban ∷ xs) deeper.is_parts);
          still_rises = rw (lower) (and_from (list_all (before ban) (placed mask bans))
              (rises (placed mask bans)) (all_placed ban mask bans lower all) deeper.still_rises);
        }
    by (high not_low higher other) all rest none later =
        let front = ahead mask bans (all_after mask ban bans higher all) in
        record {
          is_insert = rw (not_low) (rw (front.none_low) refl);
          is_parts = rw (not_low, higher) (rw (front.none_low, front.all_high) refl);
          still_rises =
              rw (not_low) (and_from (list_all (before mask) (ban ∷ bans)) (rises (ban ∷ bans))
              (and_from (before mask ban) (list_all (before mask) bans) higher
              (all_after mask ban bans higher all))
              (and_from (list_all (before ban) bans) (rises bans) all rest));
        }

-- ---- without a mask

-- where no ban is the same, none is taken out
pub unchanged : (mask : List ℕ) (bans : List (List ℕ)) → list_any (same mask) bans ≡ false
    → without_ban mask bans ≡ bans
unchanged mask [] none = refl
unchanged mask (ban ∷ bans) none = by (same mask ban) none (λ others. unchanged mask bans others)
  where
    by : (test : Bool) → (test || list_any (same mask) bans) ≡ false
        → (list_any (same mask) bans ≡ false → without_ban mask bans ≡ bans)
        → cond (not test) (ban ∷ without_ban mask bans) (without_ban mask bans) ≡ ban ∷ bans
    by true none later = cc
    by false none later = ap (λ xs. ban ∷ xs) (later none)

-- of bans in order only one is the same as a mask
alone : (mask ban : List ℕ) (bans : List (List ℕ)) (i : ℕ) → list_all (before ban) bans ≡ true
    → i < length bans → same mask (get_or bans i mask) ≡ true → same mask ban ≡ false
alone mask ban bans i all within here = by (side mask ban)
  where
    clash : before mask (get_or bans i mask) ≡ true → Side mask (get_or bans i mask)
        → same mask ban ≡ false
    clash higher (low lower not_high other) = cc
    clash higher (level equal not_low not_high alike) = cc
    clash higher (high not_low higher_2 other) = cc

    by : Side mask ban → same mask ban ≡ false
    by (low lower not_high other) = other
    by (level equal not_low not_high alike) = clash (list_all-at (before mask) bans i mask
        (all_level mask ban bans equal all) within) (side mask (get_or bans i mask))
    by (high not_low higher other) = other

-- the ban at the place where one is the same is all that is taken out
pub removed : (mask : List ℕ) (bans : List (List ℕ)) (i : ℕ) → rises bans ≡ true → i < length bans
    → same mask (get_or bans i mask) ≡ true → remove bans i ≡ without_ban mask bans
removed mask [] i rising within here = absurd (omega arith)
removed mask (ban ∷ bans) zero rising within here = by (side mask ban)
  where
    by : Side mask ban → remove (ban ∷ bans) zero ≡ without_ban mask (ban ∷ bans)
    by (low lower not_high other) = cc
    by (high not_low higher other) = cc
    by (level equal not_low not_high alike) =
        let front = ahead mask bans (all_level mask ban bans equal
        (first_so (list_all (before ban) bans) (rises bans) rising)) in
        rw (alike) (sym front.all_other)
removed mask (ban ∷ bans) (suc i) rising within here =
    let within_rest : i < length bans = omega arith in
    let other = alone mask ban bans i
    (first_so (list_all (before ban) bans) (rises bans) rising) within_rest here in
    rw (other) (ap (λ xs. ban ∷ xs) (removed mask bans i
    (second_so (list_all (before ban) bans) (rises bans) rising) within_rest here))

-- bans stay in order when some are taken out
pub rises-filter : (q : List ℕ → Bool) (bans : List (List ℕ)) → rises bans ≡ true
    → rises (filter q bans) ≡ true
rises-filter q [] rising = refl
rises-filter q (ban ∷ bans) rising =
    by (q ban)
    (list_all-filter (before ban) q bans
    (first_so (list_all (before ban) bans) (rises bans) rising))
    (rises-filter q bans (second_so (list_all (before ban) bans) (rises bans) rising))
  where
    by : (test : Bool) → list_all (before ban) (filter q bans) ≡ true → rises (filter q bans) ≡ true
        → rises (cond test (ban ∷ filter q bans) (filter q bans)) ≡ true
    by true first rest = cc
    by false first rest = rest

-- ---- what a search finds

ltb-suc : (m n : ℕ) → nat_lt (1 + m) (suc n) ≡ nat_lt m n
ltb-suc m n = grind (arith, nat_tests)

ltb-zero : (n : ℕ) → nat_lt 0 (suc n) ≡ true
ltb-zero n = grind (arith, nat_tests)

within_any : {X : Type 0} (p : X → Bool) (xs : List X)
    → nat_lt (position_or_len p xs) (length xs) ≡ list_any p xs
within_any p [] = refl
within_any p (x ∷ xs) = by (p x) (position_or_len p xs) (within_any p xs)
  where
    by : (test : Bool) (n : ℕ) → nat_lt n (length xs) ≡ list_any p xs
        → nat_lt (cond (not test) (1 + n) 0) (suc (length xs)) ≡ (test || list_any p xs)
    by true n rest = ltb-zero (length xs)
    by false n rest = ltb-suc n (length xs) ∙ rest

some_test : {X : Type 0} (test : Bool) (x : X) → is_some (cond test (Some x) None) ≡ test
some_test true x = refl
some_test false x = refl

-- a place is found just where something passes
pub found_any : {X : Type 0} (p : X → Bool) (xs : List X) → is_some (position p xs) ≡ list_any p xs
found_any p xs = some_test (nat_lt (position_or_len p xs) (length xs)) (position_or_len p xs)
    ∙ within_any p xs

-- ---- what the edits of a list of bans make

-- one that is taken out is not there
pub taken_gone : (mask : List ℕ) (bans : List (List ℕ))
    → list_any (same mask) (without_ban mask bans) ≡ false
taken_gone mask [] = refl
taken_gone mask (ban ∷ bans) = by (same mask ban) refl (taken_gone mask bans)
  where
    by : (test : Bool) → same mask ban ≡ test
        → list_any (same mask) (without_ban mask bans) ≡ false
        → list_any (same mask) (cond (not test) (ban ∷ without_ban mask bans)
        (without_ban mask bans)) ≡ false
    by true is rest = rest
    by false is rest = ap (λ b. b || list_any (same mask) (without_ban mask bans)) is ∙ rest

-- those before a mask, and those behind it, are not touched where it is taken out
record Beside (mask : List ℕ) (bans : List (List ℕ)) : Type 0 where
  low_stay : filter (λ ban. before ban mask) (without_ban mask bans)
      ≡ filter (λ ban. before ban mask) bans
  high_stay : filter (before mask) (without_ban mask bans) ≡ filter (before mask) bans

beside : (mask : List ℕ) (bans : List (List ℕ)) → Beside mask bans
beside mask [] = record { low_stay = refl; high_stay = refl }
beside mask (ban ∷ bans) = by (side mask ban) (beside mask bans)
  where
    by : Side mask ban → Beside mask bans → Beside mask (ban ∷ bans)
    by (low lower not_high other) rest = record {
      low_stay = rw (other, lower) (ap (λ xs. ban ∷ xs) rest.low_stay);
      high_stay = rw (other, not_high) rest.high_stay;
    }
    by (level equal not_low not_high alike) rest = record {
      low_stay = rw (alike, not_low) rest.low_stay;
      high_stay = rw (alike, not_high) rest.high_stay;
    }
    by (high not_low higher other) rest = record {
      low_stay = rw (other, not_low) rest.low_stay;
      high_stay = rw (other, higher) (ap (λ xs. ban ∷ xs) rest.high_stay);
    }

-- a mask that is set is put in its place once the one that is the same is out
pub record PutOver (mask : List ℕ) (bans : List (List ℕ)) : Type 0 where
  pub is_put : with_ban mask bans ≡ placed mask (without_ban mask bans)
  pub is_insert : insert (without_ban mask bans) (place mask (without_ban mask bans)) mask
      ≡ with_ban mask bans
  pub still_rises : rises (with_ban mask bans) ≡ true

pub put_over : (mask : List ℕ) (bans : List (List ℕ)) → rises bans ≡ true → PutOver mask bans
put_over mask bans rising =
    let rest = without_ban mask bans in
    let put = places mask rest (rises-filter (λ ban. not (same mask ban)) bans rising)
    (taken_gone mask bans) in
    let stay = beside mask bans in
    let parts : with_ban mask bans ≡ placed mask rest =
    (λ i. sym stay.low_stay i ++ mask ∷ sym stay.high_stay i) ∙ put.is_parts in
    record {
      is_put = parts;
      is_insert = put.is_insert ∙ sym parts;
      still_rises = ap rises parts ∙ put.still_rises;
    }

-- the bans with a mask that was not there
pub is_placed : (mask : List ℕ) (bans : List (List ℕ)) → rises bans ≡ true
    → list_any (same mask) bans ≡ false → with_ban mask bans ≡ placed mask bans
is_placed mask bans rising none = (places mask bans rising none).is_parts

-- bans stay in order with one more
pub with_rises : (mask : List ℕ) (bans : List (List ℕ)) → rises bans ≡ true
    → rises (with_ban mask bans) ≡ true
with_rises mask bans rising = (put_over mask bans rising).still_rises

-- what is taken out, and what is left
pub record TakenOut (mask : List ℕ) (bans : List (List ℕ)) (i : ℕ) : Type 0 where
  pub rest : remove bans i ≡ without_ban mask bans
  pub in_order : rises (remove bans i) ≡ true
  pub within : i < length bans

pub taken_out : (mask : List ℕ) (bans : List (List ℕ)) (i : ℕ) → rises bans ≡ true
    → position (same mask) bans ≡ Some i → TakenOut mask bans i
taken_out mask bans i rising at =
    let facts = position-Some (same mask) bans i mask at in
    let rest = removed mask bans i rising facts.0 facts.1 in
    record {
      rest = rest;
      in_order = ap rises rest ∙ rises-filter (λ ban. not (same mask ban)) bans rising;
      within = facts.0;
    }

pub none_out : (mask : List ℕ) (bans : List (List ℕ)) → position (same mask) bans ≡ None
    → bans ≡ without_ban mask bans
none_out mask bans at = sym (unchanged mask bans (sym (found_any (same mask) bans) ∙ ap is_some at))
