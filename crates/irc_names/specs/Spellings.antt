-- Spellings: names compared by the fold first, and by the bytes after it.
use Rattle.std.specs.Prelude.{◌≡◌, ℕ, Bool, true, List, nat_eq, IsTrue}
use Rattle.std.proofs.Common.{◌∙◌, sym, ap, refl}
use Rattle.std.specs.Hash as fed
use Rattle.std.specs.declared.cmp.Ordering.{Ordering}
use Rattle.std.specs.declared.cmp.Ordering.TheVariants.{Less, Equal, Greater}
use Rattle.std.specs.Ordering.{then_cmp, ordering_then, nat_cmp, is_eq}
use Rattle.std.specs.Cmp.{IsTotalOrder, IsEquivalence, then_total}
use Rattle.std.specs.Cmp.Lexicographic.{pointwise, slice_cmp, nat_list_cmp_total, nat_list_eq_equiv}
use Rattle.std.specs.Cmp.Lexicographic.{texts_ties, bytes_decides}
use Rattle.irc_names.specs.Fold.{key, name_cmp}
use Rattle.irc_names.specs.FoldLaws.{name_cmp-total, key-equal}

-- two names have the same bytes
abbrev pub exactly_same : List ℕ → List ℕ → Bool
exactly_same = pointwise nat_eq

-- by the fold, and then by the bytes
abbrev pub exact_cmp : List ℕ → List ℕ → Ordering
exact_cmp = then_cmp name_cmp (slice_cmp nat_cmp)

pub exactly_same-equivalence : IsEquivalence exactly_same
exactly_same-equivalence = nat_list_eq_equiv

pub exact_cmp-total : IsTotalOrder exact_cmp
exact_cmp-total = then_total name_cmp-total nat_list_cmp_total

-- the second order alone tells apart what the first does not
level_second : (first second : Ordering) → (is_eq second ≡ true → first ≡ Equal)
    → is_eq second ≡ is_eq (ordering_then first second)
level_second Less Less h = refl
level_second Less Equal h = ap is_eq (sym (h refl))
level_second Less Greater h = refl
level_second Equal second h = refl
level_second Greater Less h = refl
level_second Greater Equal h = ap is_eq (sym (h refl))
level_second Greater Greater h = refl

-- two spellings tie just where they have the same bytes
pub exactly_same-ties : (a b : List ℕ) → exactly_same a b ≡ is_eq (exact_cmp a b)
exactly_same-ties a b =
    texts_ties a b
    ∙ level_second (name_cmp a b) (slice_cmp nat_cmp a b)
    (λ tie. key-equal a b (ap key ((bytes_decides a b).0 (texts_ties a b ∙ tie))))

-- what a spelling feeds a hasher
abbrev pub bytes_fed : List ℕ → List (List ℕ)
bytes_fed bytes = fed.slice fed.u8 bytes

pub exactly_same-fed : (a b : List ℕ) → IsTrue (exactly_same a b) → bytes_fed a ≡ bytes_fed b
exactly_same-fed a b h = ap bytes_fed ((bytes_decides a b).0 h)
