-- The greater of two is the same whichever is named first, of three whichever two are taken first,
-- and of one with itself that one: of any total order in which only equal values tie, and so of
-- bytes and of numbers.
use Rattle.std.proofs.Common.{◌≡◌, ℕ, Bool, true, false, cond, Option, Some, None, List, refl, sym}
use Rattle.std.proofs.Common.{◌∙◌, ap}
use Rattle.std.specs.declared.cmp.Ordering.{Ordering}
use Rattle.std.specs.declared.cmp.Ordering.TheVariants.{Less, Equal, Greater}
use Rattle.std.specs.Ordering.{is_lt, is_gt, ordering_reverse, nat_cmp}
use Rattle.std.specs.Cmp.{IsTotalOrder, nat_cmp_total, upto}
use Rattle.std.specs.Cmp.Lexicographic.{nat_list_cmp_total}
use Rattle.std.specs.FinMap.{IsAntisymmetric, nat_cmp-IsAntisymmetric, slice_cmp-IsAntisymmetric}
use Rattle.irc_names.specs.Greater.{bytes_cmp, greater, greater_of}

-- which of two texts is named first makes no difference
abbrev pub GreaterIsEven : Type 0
GreaterIsEven = (one other : List ℕ) → greater bytes_cmp one other ≡ greater bytes_cmp other one

-- nor does it which two of three are taken first
abbrev pub GreaterAssociates : Type 0
GreaterAssociates = (one next last : List ℕ)
    → greater bytes_cmp (greater bytes_cmp one next) last
    ≡ greater bytes_cmp one (greater bytes_cmp next last)

-- a text is the greater of itself and itself
abbrev pub GreaterWithItself : Type 0
GreaterWithItself = (one : List ℕ) → greater bytes_cmp one one ≡ one

-- ---- of any order

module _ {X : Type 0} (order : X → X → Ordering) where
  pub greater-itself : (one : X) → greater order one one ≡ one
  greater-itself one = either (is_lt (order one one))
    where
      either : (b : Bool) → cond b one one ≡ one
      either true = refl
      either false = refl

  pub greater_of-itself : (one : Option X) → greater_of order one one ≡ one
  greater_of-itself None = refl
  greater_of-itself (Some one) = ap Some (greater-itself one)

  pub greater_of-none : (one : Option X) → greater_of order one None ≡ one
  greater_of-none None = refl
  greater_of-none (Some one) = refl

-- ---- of a total order

less_is : (r : Ordering) → is_lt r ≡ true → r ≡ Less
less_is Less is = refl
less_is Equal is = cc
less_is Greater is = cc

lt_reverse : (r : Ordering) → is_lt (ordering_reverse r) ≡ is_gt r
lt_reverse Less = refl
lt_reverse Equal = refl
lt_reverse Greater = refl

gt_reverse : (r : Ordering) → is_gt (ordering_reverse r) ≡ is_lt r
gt_reverse Less = refl
gt_reverse Equal = refl
gt_reverse Greater = refl

module _ {X : Type 0} {order : X → X → Ordering} (total : IsTotalOrder order) where
  module _ (alone : IsAntisymmetric order) where
    pub greater-even : (one other : X) → greater order one other ≡ greater order other one
    greater-even one other = by (order one other) refl ∙ sym (ap (λ b. cond b one other) back)
      where
        back : is_lt (order other one) ≡ is_gt (order one other)
        back = ap is_lt (total.antisymm other one) ∙ lt_reverse (order one other)

        by : (r : Ordering) → order one other ≡ r
            → cond (is_lt r) other one ≡ cond (is_gt r) one other
        by Less is = refl
        by Equal is = alone one other is
        by Greater is = refl

    pub greater_of-even : (one other : Option X)
        → greater_of order one other ≡ greater_of order other one
    greater_of-even None other = sym (greater_of-none order other)
    greater_of-even (Some one) None = refl
    greater_of-even (Some one) (Some other) = ap Some (greater-even one other)

  below : (one next last : X) → is_lt (order one next) ≡ true → is_lt (order next last) ≡ true
      → is_lt (order one last) ≡ true
  below one next last first second =
      let first_less = less_is (order one next) first in
      let second_less = less_is (order next last) second in
      ap is_lt (total.trans one next last first_less second_less)

  -- what is not below another is not below what that is not below either
  not_below : (one next last : X) → is_lt (order one next) ≡ false
      → is_lt (order next last) ≡ false → is_lt (order one last) ≡ false
  not_below one next last first second =
      let last_next = over next last ∙ second in
      let next_one = over one next ∙ first in
      sym (over one last) ∙ upto total last next one last_next next_one
    where
      over : (x y : X) → is_gt (order y x) ≡ is_lt (order x y)
      over x y = ap is_gt (total.antisymm y x) ∙ gt_reverse (order x y)

  pub greater-associates : (one next last : X)
      → greater order (greater order one next) last ≡ greater order one (greater order next last)
  greater-associates one next last =
      by (is_lt (order one next)) (is_lt (order next last)) refl refl
    where
      by : (low high : Bool) → is_lt (order one next) ≡ low → is_lt (order next last) ≡ high
          → greater order (cond low next one) last ≡ greater order one (cond high last next)
      by true true first second =
          ap (λ b. cond b last next) second
          ∙ sym (ap (λ b. cond b last one) (below one next last first second))
      by true false first second =
          ap (λ b. cond b last next) second ∙ sym (ap (λ b. cond b next one) first)
      by false true first second = refl
      by false false first second =
          ap (λ b. cond b last one) (not_below one next last first second)
          ∙ sym (ap (λ b. cond b next one) first)

  pub greater_of-associates : (one next last : Option X)
      → greater_of order (greater_of order one next) last
      ≡ greater_of order one (greater_of order next last)
  greater_of-associates None next last = refl
  greater_of-associates (Some one) None last = refl
  greater_of-associates (Some one) (Some next) None = refl
  greater_of-associates (Some one) (Some next) (Some last) =
      ap Some (greater-associates one next last)

-- ---- of bytes and of numbers

pub bytes_cmp-IsAntisymmetric : IsAntisymmetric bytes_cmp
bytes_cmp-IsAntisymmetric = slice_cmp-IsAntisymmetric nat_cmp-IsAntisymmetric

pub greater_is_even : GreaterIsEven
greater_is_even = greater-even nat_list_cmp_total bytes_cmp-IsAntisymmetric

pub greater_associates : GreaterAssociates
greater_associates = greater-associates nat_list_cmp_total

pub greater_with_itself : GreaterWithItself
greater_with_itself = greater-itself bytes_cmp

pub greater_text-even : (one other : Option (List ℕ))
    → greater_of bytes_cmp one other ≡ greater_of bytes_cmp other one
greater_text-even = greater_of-even nat_list_cmp_total bytes_cmp-IsAntisymmetric

pub greater_text-associates : (one next last : Option (List ℕ))
    → greater_of bytes_cmp (greater_of bytes_cmp one next) last
    ≡ greater_of bytes_cmp one (greater_of bytes_cmp next last)
greater_text-associates = greater_of-associates nat_list_cmp_total

pub greater_number-even : (one other : Option ℕ)
    → greater_of nat_cmp one other ≡ greater_of nat_cmp other one
greater_number-even = greater_of-even nat_cmp_total nat_cmp-IsAntisymmetric

pub greater_number-associates : (one next last : Option ℕ)
    → greater_of nat_cmp (greater_of nat_cmp one next) last
    ≡ greater_of nat_cmp one (greater_of nat_cmp next last)
greater_number-associates = greater_of-associates nat_cmp_total
