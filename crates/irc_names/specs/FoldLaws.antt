-- The laws of names by the fold: what `same` tells, that it is an equivalence, and that folded
-- order is a total order whose ties are the same names.
use Rattle.std.proofs.Common.{◌≡◌, ℕ, List, [], ◌∷◌, suc, length, IsTrue, ◌∙◌, sym, ap, refl}
use Rattle.std.specs.Hash as fed
use Rattle.std.specs.Bool.{Decides}
use Rattle.std.specs.declared.cmp.Ordering.TheVariants.{Equal}
use Rattle.std.specs.Ordering.{is_eq}
use Rattle.std.specs.Cmp.{IsTotalOrder, IsEquivalence, on_total, on_equiv, Equal-is}
use Rattle.std.specs.Cmp.Lexicographic.{nat_list_cmp_total, nat_list_eq_equiv, texts_ties}
use Rattle.std.specs.Cmp.Lexicographic.{bytes_decides}
use Rattle.irc_names.specs.Fold.{key, same, name_cmp}

-- `same` tells whether the folds are equal
pub same-tells : (a b : List ℕ) → Decides (same a b) (key a ≡ key b)
same-tells a b = bytes_decides (key a) (key b)

pub same-equivalence : IsEquivalence same
same-equivalence = on_equiv key nat_list_eq_equiv

pub name_cmp-total : IsTotalOrder name_cmp
name_cmp-total = on_total key nat_list_cmp_total

-- folded order does not tell two names apart just where they are the same
pub same-ties : (a b : List ℕ) → same a b ≡ is_eq (name_cmp a b)
same-ties a b = texts_ties (key a) (key b)

pub key-equal : (a b : List ℕ) → key a ≡ key b → name_cmp a b ≡ Equal
key-equal a b keys = (Equal-is (name_cmp a b)).0 (sym (same-ties a b) ∙ (same-tells a b).1 keys)

-- a fold is as long as its name
pub key-length : (a : List ℕ) → length (key a) ≡ length a
key-length [] = refl
key-length (x ∷ xs) = ap suc (key-length xs)

-- names that are the same are equally long
pub same-long : (a b : List ℕ) → IsTrue (same a b) → length a ≡ length b
same-long a b h = sym (key-length a) ∙ ap length ((same-tells a b).0 h) ∙ key-length b

-- what a name feeds a hasher: its length, and then each byte of its fold
abbrev pub folds_fed : List ℕ → List (List ℕ)
folds_fed name = fed.slice fed.u8 (key name)

-- names that are the same feed a hasher alike
pub same-fed : (a b : List ℕ) → IsTrue (same a b) → folds_fed a ≡ folds_fed b
same-fed a b h = ap (fed.slice fed.u8) ((same-tells a b).0 h)
