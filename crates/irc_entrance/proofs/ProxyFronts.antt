-- Bytes that begin and end as a mark does.
use Rattle.std.proofs.Common.{◌≡◌, ◌∙◌, sym, ap, subst, refl, ℕ, ◌-◌, ◌≤◌}
use Rattle.std.proofs.Common.{true, false, ◌&&◌, ◌||◌, nat_eq, List}
use Rattle.std.proofs.Common.{[], ◌∷◌, ◌++◌, length, take, drop}
use Rattle.std.proofs.Common.{arith, length-append, length-drop, length-take}
use Rattle.std.proofs.lemmas.Bool.{eqb-true}
use Rattle.std.proofs.lemmas.List.{drop-append-le}
use Rattle.std.specs.List.{starts_with}
use Rattle.std.specs.Cmp.{first_so}
use Rattle.irc_entrance.specs.ProxyLines.{ends_in, line_end}
use Rattle.irc_entrance.specs.Proxying.{agrees}
use lib.Pointwise.{pointwise, pointwise_long}

-- of two that agree the first bytes are the same
pub first_byte : (b : ℕ) (bytes : List ℕ) (m : ℕ) (mark : List ℕ)
    → agrees (b ∷ bytes) (m ∷ mark) ≡ true → b ≡ m
first_byte b bytes m mark agree =
    elim (starts_with nat_eq (b ∷ bytes) (m ∷ mark))
    as (λ t. starts_with nat_eq (b ∷ bytes) (m ∷ mark) ≡ t
    → t || starts_with nat_eq (m ∷ mark) (b ∷ bytes) ≡ true → b ≡ m) [
      | true ↦ λ same any. sym (eqb-true m b (first_so _ _ same))
      | false ↦ λ other same. eqb-true b m (first_so _ _ same)
    ] refl agree

-- what begins so is as long at least
pub front_fits : (bytes mark : List ℕ) → starts_with nat_eq bytes mark ≡ true
    → length mark ≤ length bytes
front_fits bytes mark begins =
    omega (
      arith,
      pointwise_long nat_eq mark (take (length mark) bytes) begins,
      length-take (length mark) bytes,
    )

-- bytes that one more ends with CR LF end with CR
pub one_before_end : (bytes : List ℕ) (x : ℕ) → 1 ≤ length bytes
    → ends_in line_end (bytes ++ x ∷ []) ≡ true → ends_in (13 ∷ []) bytes ≡ true
one_before_end bytes x some ends =
    by (drop (length bytes - 1) bytes) (length-drop (length bytes - 1) bytes ∙ omega (arith, some))
    (subst (λ last. pointwise nat_eq line_end last ≡ true) behind ends)
  where
    behind : drop (length (bytes ++ x ∷ []) - 2) (bytes ++ x ∷ [])
        ≡ drop (length bytes - 1) bytes ++ x ∷ []
    behind = ap (λ n. drop n (bytes ++ x ∷ []))
        (omega (arith, length-append bytes (x ∷ []), some))
        ∙ drop-append-le (length bytes - 1) bytes (x ∷ []) (omega arith)

    by : (last : List ℕ) → length last ≡ 1 → pointwise nat_eq line_end (last ++ x ∷ []) ≡ true
        → pointwise nat_eq (13 ∷ []) last ≡ true
    by [] long same = cc long
    by (y ∷ []) long same = ap (λ b. b && true) (first_so _ _ same)
    by (y ∷ z ∷ more) long same = cc long
