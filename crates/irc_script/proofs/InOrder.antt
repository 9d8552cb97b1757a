-- Names in order.
use Rattle.std.proofs.Common.{◌≡◌, ℕ, ◌+◌, Bool, true, false, cond, not, List, [], ◌∷◌, ap}
use Rattle.std.proofs.Common.{sym, refl, ◌∙◌, arith, suc, rules, add_left_cancel}
use Rattle.std.specs.Cmp.Lexicographic.{slice_cmp}
use Rattle.std.specs.FinMap.{nat_cmp-IsAntisymmetric, slice_cmp-IsAntisymmetric}
use Rattle.std.specs.List.{list_any, sum_by}
use Rattle.std.specs.List.Sorted.{IsPermutation}
use Rattle.std.specs.Ordering.{nat_cmp, ordering_reverse}
use Rattle.std.specs.declared.cmp.Ordering.{Ordering}
use Rattle.std.specs.declared.cmp.Ordering.TheVariants.{Less, Equal, Greater}
use Rattle.std.proofs.lemmas.Cmp.{nat_list_cmp_total, tied_itself}
use Rattle.std.proofs.lemmas.List.Sorted.{IsPermutation-cons, IsPermutation-refl}
use Rattle.std.proofs.lemmas.List.Sorted.{IsPermutation-swap, IsPermutation-trans}
use Rattle.std.proofs.lemmas.List.Sorted.{sum_by-IsPermutation}
use Rattle.std.proofs.lemmas.List.Sums.{sum_by-cons}
use Rattle.std.proofs.lemmas.Bool.{not-true, and_parts, and_from, or_from, or_parts}
use Rattle.irc_relay.specs.Links.{Name}
use Rattle.irc_script.specs.Networks.{exceeds, in_name_order, is_greater, name_put_in}
use Rattle.irc_script.specs.RunLaws.{OrderIsSo, are_ordered}

-- ---- how often a name is there

abbrev is_equal : Ordering → ℕ
is_equal Equal = 1
is_equal other = 0

abbrev one : Name → Name → ℕ
one x y = is_equal (slice_cmp nat_cmp x y)

abbrev times : Name → List Name → ℕ
times x ys = sum_by (one x) ys

-- a name is greater than one that is there
abbrev pub exceeds_one : Name → List Name → Bool
exceeds_one x ys = list_any (exceeds x) ys

pub turned : (x y : Name) (o : Ordering) → slice_cmp nat_cmp x y ≡ o
    → slice_cmp nat_cmp y x ≡ ordering_reverse o
turned x y o is = nat_list_cmp_total.antisymm y x ∙ ap ordering_reverse is

antisymmetric : (x y : Name) → slice_cmp nat_cmp x y ≡ Equal → x ≡ y
antisymmetric = slice_cmp-IsAntisymmetric nat_cmp-IsAntisymmetric

no_more : (all first rest : ℕ) → all ≡ first + rest → first ≡ 0 → rest ≡ 0 → all ≡ 0
no_more all first rest e f g = omega (arith, e, f, g)

one_more : (all first rest : ℕ) → all ≡ first + rest → first ≡ 1 → all ≡ suc rest
one_more all first rest e f = omega (arith, e, f)

-- what is less than a name than which no other is less is not there
less_is_nowhere : (x y : Name) (ys : List Name) → slice_cmp nat_cmp x y ≡ Less
    → exceeds_one y ys ≡ false → times x ys ≡ 0
less_is_nowhere x y [] less none = refl
less_is_nowhere x y (z ∷ ys) less none =
    let parts = or_parts (exceeds y z) (exceeds_one y ys) none in
    no_more (times x (z ∷ ys)) (one x z) (times x ys) (sum_by-cons (one x) z ys)
    (by (slice_cmp nat_cmp y z) refl parts.0)
    (less_is_nowhere x y ys less parts.1)
  where
    by : (o : Ordering) → slice_cmp nat_cmp y z ≡ o → is_greater o ≡ false → one x z ≡ 0
    by Less is ok = ap is_equal (nat_list_cmp_total.trans x y z less is)
    by Equal is ok =
        ap is_equal (ap (λ w. slice_cmp nat_cmp x w) (sym (antisymmetric y z is)) ∙ less)
    by Greater is ok = cc ok

-- a name at the front is there
there_once : (x : Name) (xs : List Name) → times x (x ∷ xs) ≡ suc (times x xs)
there_once x xs = one_more (times x (x ∷ xs)) (one x x) (times x xs) (sum_by-cons (one x) x xs)
    (ap is_equal (tied_itself nat_list_cmp_total x))

never : (n : ℕ) → suc n ≡ 0 → ⊥
never n is = omega (arith, is)

-- the same behind a front that is the same
behind_front : (x y : Name) (xs ys : List Name) → x ≡ y
    → ((z : Name) → times z (x ∷ xs) ≡ times z (y ∷ ys)) → (z : Name) → times z xs ≡ times z ys
behind_front x y xs ys front same z =
    add_left_cancel (one z x) (sym (sum_by-cons (one z) x xs) ∙ same z
    ∙ ap (λ w. times z (w ∷ ys)) (sym front) ∙ sum_by-cons (one z) x ys)

nowhere_in : (x y : Name) (ys : List Name) → slice_cmp nat_cmp x y ≡ Less → exceeds_one y ys ≡ false
    → times x (y ∷ ys) ≡ 0
nowhere_in x y ys less none = no_more (times x (y ∷ ys)) (one x y) (times x ys)
    (sum_by-cons (one x) y ys) (ap is_equal less) (less_is_nowhere x y ys less none)

pub none_less : (x : Name) (xs : List Name) → are_ordered (x ∷ xs) ≡ true → exceeds_one x xs ≡ false
none_less x xs o =
    not-true (exceeds_one x xs) (and_parts (not (exceeds_one x xs)) (are_ordered xs) o).0

rest_ordered : (x : Name) (xs : List Name) → are_ordered (x ∷ xs) ≡ true → are_ordered xs ≡ true
rest_ordered x xs o = (and_parts (not (exceeds_one x xs)) (are_ordered xs) o).1

-- lists in order that have each name as often are the same
counted_same : (xs ys : List Name) → are_ordered xs ≡ true → are_ordered ys ≡ true
    → ((z : Name) → times z xs ≡ times z ys) → xs ≡ ys
counted_same [] [] o p same = refl
counted_same [] (y ∷ ys) o p same =
    absurd (never (times y ys) (sym (there_once y ys) ∙ sym (same y)))
counted_same (x ∷ xs) [] o p same = absurd (never (times x xs) (sym (there_once x xs) ∙ same x))
counted_same (x ∷ xs) (y ∷ ys) o p same =
    by (counted_same xs ys (rest_ordered x xs o) (rest_ordered y ys p)) (slice_cmp nat_cmp x y) refl
  where
    by : (((z : Name) → times z xs ≡ times z ys) → xs ≡ ys) → (c : Ordering)
        → slice_cmp nat_cmp x y ≡ c → x ∷ xs ≡ y ∷ ys
    by rest Less is = absurd (never (times x xs) (sym (there_once x xs) ∙ same x
        ∙ nowhere_in x y ys is (none_less y ys p)))
    by rest Equal is = let front = antisymmetric x y is in ap (λ w. w ∷ xs) front
        ∙ ap (λ ws. y ∷ ws) (rest (behind_front x y xs ys front same))
    by rest Greater is = absurd (never (times y ys) (sym (there_once y ys) ∙ sym (same y)
        ∙ nowhere_in y x xs (turned x y Greater is) (none_less x xs o)))

pub one_order : (a b : List Name) → IsPermutation a b → are_ordered a ≡ true
    → are_ordered b ≡ true → a ≡ b
one_order a b moved o p = counted_same a b o p (λ z. sym (sum_by-IsPermutation (one z) a b moved))

-- ---- a name is put where it belongs

put_moves : (x : Name) (ys : List Name) → IsPermutation (x ∷ ys) (name_put_in x ys)
put_moves x [] = IsPermutation-refl (x ∷ [])
put_moves x (y ∷ ys) = by (put_moves x ys) (is_greater (slice_cmp nat_cmp x y))
  where
    swapped : IsPermutation (x ∷ y ∷ ys) (y ∷ x ∷ ys)
    swapped =
        IsPermutation-swap (x ∷ y ∷ ys) (y ∷ x ∷ ys) 0 1 (search (rules)) (search (rules)) refl

    by : IsPermutation (x ∷ ys) (name_put_in x ys) → (b : Bool)
        → IsPermutation (x ∷ y ∷ ys) (cond b (y ∷ name_put_in x ys) (x ∷ y ∷ ys))
    by rest true = IsPermutation-trans (x ∷ y ∷ ys) (y ∷ x ∷ ys) (y ∷ name_put_in x ys) swapped
        (IsPermutation-cons y (x ∷ ys) (name_put_in x ys) rest)
    by rest false = IsPermutation-refl (x ∷ y ∷ ys)

-- what no name is less than, is it also once a name that is not less is put to them
none_less_put : (y x : Name) (ys : List Name) → exceeds y x ≡ false → exceeds_one y ys ≡ false
    → exceeds_one y (name_put_in x ys) ≡ false
none_less_put y x [] first rest = or_from (exceeds y x) false first refl
none_less_put y x (z ∷ ys) first rest = by (none_less_put y x ys first
    (or_parts (exceeds y z) (exceeds_one y ys) rest).1) (is_greater (slice_cmp nat_cmp x z))
  where
    by : exceeds_one y (name_put_in x ys) ≡ false → (b : Bool)
        → exceeds_one y (cond b (z ∷ name_put_in x ys) (x ∷ z ∷ ys)) ≡ false
    by more true = or_from (exceeds y z) (exceeds_one y (name_put_in x ys))
        (or_parts (exceeds y z) (exceeds_one y ys) rest).0 more
    by more false = or_from (exceeds y x) (exceeds_one y (z ∷ ys)) first rest

-- what is not greater than a name is not greater than those behind it
pub none_less_too : (x y : Name) (ys : List Name) → is_greater (slice_cmp nat_cmp x y) ≡ false
    → exceeds_one y ys ≡ false → exceeds_one x ys ≡ false
none_less_too x y [] not_greater rest = refl
none_less_too x y (z ∷ ys) not_greater rest =
    let parts = or_parts (exceeds y z) (exceeds_one y ys) rest in
    or_from (exceeds x z) (exceeds_one x ys)
    (by (slice_cmp nat_cmp x y) refl not_greater (slice_cmp nat_cmp y z) refl parts.0)
    (none_less_too x y ys not_greater parts.1)
  where
    by : (o : Ordering) → slice_cmp nat_cmp x y ≡ o → is_greater o ≡ false → (p : Ordering)
        → slice_cmp nat_cmp y z ≡ p → is_greater p ≡ false → exceeds x z ≡ false
    by Greater is ok p is' ok' = cc ok
    by Equal is ok p is' ok' = ap is_greater (nat_list_cmp_total.congr x y z is ∙ is') ∙ ok'
    by Less is ok Less is' ok' = ap is_greater (nat_list_cmp_total.trans x y z is is')
    by Less is ok Equal is' ok' =
        ap is_greater (ap (λ w. slice_cmp nat_cmp x w) (sym (antisymmetric y z is')) ∙ is)
    by Less is ok Greater is' ok' = cc ok'

put_ordered : (x : Name) (ys : List Name) → are_ordered ys ≡ true
    → are_ordered (name_put_in x ys) ≡ true
put_ordered x [] o = refl
put_ordered x (y ∷ ys) o = by (put_ordered x ys (rest_ordered y ys o)) (slice_cmp nat_cmp x y) refl
  where
    by : are_ordered (name_put_in x ys) ≡ true → (c : Ordering) → slice_cmp nat_cmp x y ≡ c
        → are_ordered (cond (is_greater c) (y ∷ name_put_in x ys) (x ∷ y ∷ ys)) ≡ true
    by more Greater is =
        and_from (not (exceeds_one y (name_put_in x ys))) (are_ordered (name_put_in x ys))
        (ap not (none_less_put y x ys (ap is_greater (turned x y Greater is)) (none_less y ys o)))
        more
    by more Less is =
        let not_greater = ap is_greater is in
        and_from (not (exceeds_one x (y ∷ ys))) (are_ordered (y ∷ ys))
        (ap not (or_from (exceeds x y) (exceeds_one x ys) not_greater
        (none_less_too x y ys not_greater (none_less y ys o)))) o
    by more Equal is =
        let not_greater = ap is_greater is in
        and_from (not (exceeds_one x (y ∷ ys))) (are_ordered (y ∷ ys))
        (ap not (or_from (exceeds x y) (exceeds_one x ys) not_greater
        (none_less_too x y ys not_greater (none_less y ys o)))) o

pub order_moves : (names : List Name) → IsPermutation names (in_name_order names)
order_moves [] = IsPermutation-refl []
order_moves (name ∷ names) =
    IsPermutation-trans (name ∷ names) (name ∷ in_name_order names)
    (name_put_in name (in_name_order names))
    (IsPermutation-cons name names (in_name_order names) (order_moves names))
    (put_moves name (in_name_order names))

pub is_in_order : (names : List Name) → are_ordered (in_name_order names) ≡ true
is_in_order [] = refl
is_in_order (name ∷ names) = put_ordered name (in_name_order names) (is_in_order names)

pub order_is_so : OrderIsSo
order_is_so names = record { same_ones = order_moves names; ordered = is_in_order names }
