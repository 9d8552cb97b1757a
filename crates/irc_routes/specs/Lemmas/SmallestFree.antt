-- Among one number more than there are servers there is one that stands for none of them.
use Rattle.std.proofs.Common.{◌≡◌, ℕ, zero, suc, ◌+◌, ◌<◌, ◌≤◌, Bool, true, false, cond, not, ◌||◌}
use Rattle.std.proofs.Common.{List, [], ◌∷◌, length, nat_eq, nat_le, refl, sym, ◌∙◌, ap, Some}
use Rattle.std.proofs.Common.{unwrap_or, arith, add-one, add-lt-add_of_le_of_lt, add-le-add}
use Rattle.std.proofs.lemmas.Bool.{leb-true, le-leb}
use Rattle.std.proofs.lemmas.Bool.Decides.{Decides-eqb}
use Rattle.std.specs.List.{find, range_with_len}
use Rattle.irc_routes.specs.Known.{ServerRow, is_used_in, smallest_free_in}
use Rattle.irc_routes.specs.Limits.{own_token, first_token}

abbrev as_number : Bool → ℕ
as_number b = cond b 1 0

less_reach : (n m : ℕ) (a b : Bool) → nat_le (suc n) m ≡ a → nat_le n m ≡ b
    → as_number a ≤ as_number b
less_reach n m false b above here = omega arith
less_reach n m true true above here = omega arith
less_reach n m true false above here = absurd (let h = leb-true (suc n) m above in
    let clash = sym here ∙ le-leb n m (omega arith) in cc clash)

itself_reaches : (n m : ℕ) (a b : Bool) → nat_eq m n ≡ true → nat_le (suc n) m ≡ a → nat_le n m ≡ b
    → 1 + as_number a ≤ as_number b
itself_reaches n m true b same above here =
    absurd (let e = (Decides-eqb m n).0 same in let h = leb-true (suc n) m above in omega arith)
itself_reaches n m false true same above here = omega arith
itself_reaches n m false false same above here = absurd (let e = (Decides-eqb m n).0 same in
    let clash = sym here ∙ le-leb n m (omega arith) in cc clash)

-- how many servers have a number that is at least this
abbrev reaching : ℕ → List ServerRow → ℕ
reaching n [] = 0
reaching n (r ∷ rows) = as_number (nat_le n r.ours) + reaching n rows

at_most_one : (b : Bool) → as_number b ≤ 1
at_most_one true = omega arith
at_most_one false = omega arith

add_less : (a b x y : ℕ) → 1 + a ≤ b → x ≤ y → a + x < b + y
add_less a b x y first rest = omega arith

reaching-le-length : (n : ℕ) (rows : List ServerRow) → reaching n rows ≤ length rows
reaching-le-length n [] = omega arith
reaching-le-length n (r ∷ rows) = let first = at_most_one (nat_le n r.ours) in let rest =
    reaching-le-length n rows in let both = add-le-add first rest
    in omega arith

fewer_reach : (n : ℕ) (rows : List ServerRow) → reaching (suc n) rows ≤ reaching n rows
fewer_reach n [] = omega arith
fewer_reach n (r ∷ rows) = add-le-add (less_reach n r.ours _ _ refl refl) (fewer_reach n rows)

used_reaches : (n : ℕ) (rows : List ServerRow) → is_used_in rows n ≡ true
    → reaching (suc n) rows < reaching n rows
used_reaches n [] used = cc
used_reaches n (r ∷ rows) used =
    elim (nat_eq r.ours n) as (λ b. nat_eq r.ours n ≡ b → (b || is_used_in rows n) ≡ true
    → reaching (suc n) (r ∷ rows) < reaching n (r ∷ rows)) [
      | true ↦ λ same used. add_less _ _ _ _ (itself_reaches n r.ours _ _ same refl refl)
          (fewer_reach n rows)
      | false ↦ λ other used. add-lt-add_of_le_of_lt (less_reach n r.ours _ _ refl refl)
          (used_reaches n rows used)
    ] refl used

-- the least number from n on that stands for none of the servers
pub record IsLeastFree (rows : List ServerRow) (n x : ℕ) : Type 0 where
  pub free : is_used_in rows x ≡ false
  pub from : n ≤ x
  pub below : (m : ℕ) → n ≤ m → m < x → is_used_in rows m ≡ true

abbrev is_free : List ServerRow → ℕ → Bool
is_free rows n = not (is_used_in rows n)

at_or_after : (rows : List ServerRow) (n x m : ℕ) → is_used_in rows n ≡ true → n ≤ m
    → ((k : ℕ) → n + 1 ≤ k → k < x → is_used_in rows k ≡ true) → m < x
    → is_used_in rows m ≡ true
at_or_after rows n x m used from after below =
    elim (nat_eq m n) as (λ b. nat_eq m n ≡ b → is_used_in rows m ≡ true) [
      | true ↦ λ same. ap (is_used_in rows) ((Decides-eqb m n).0 same) ∙ used
      | false ↦ λ other. after m (later m n from other) below
    ] refl
  where
    later : (m n : ℕ) → n ≤ m → nat_eq m n ≡ false → n + 1 ≤ m
    later m n from other = grind (arith, Decides-eqb m n)

least : (rows : List ServerRow) (d n k : ℕ) → reaching n rows < k
    → IsLeastFree rows n (unwrap_or (find (is_free rows) (range_with_len n k)) d)
least rows d n zero few = absurd (omega arith)
least rows d n (suc k) few =
    elim (is_used_in rows n) as (λ b. is_used_in rows n ≡ b → IsLeastFree rows n
    (unwrap_or (cond (not b) (Some n) (find (is_free rows) (range_with_len
    (n + 1) k))) d)) [
      | true ↦ λ used.
          let fewer = used_reaches n rows used in
          let rest = least rows d (n + 1) k (rw add-one (omega arith)) in
          let later = rest.from in
          record {
            free = rest.free;
            from = omega arith;
            below = λ m from below. at_or_after rows n _ m used from rest.below below;
          }
      | false ↦ λ free. record {
        free = free;
        from = omega arith;
        below = λ m from below. absurd (omega arith);
      }
    ] refl

-- one of the numbers that were looked at
least_low : (rows : List ServerRow) (d n k : ℕ) → reaching n rows < k
    → unwrap_or (find (is_free rows) (range_with_len n k)) d ≤ n + reaching n rows
least_low rows d n zero few = absurd (omega arith)
least_low rows d n (suc k) few =
    elim (is_used_in rows n) as (λ b. is_used_in rows n ≡ b
    → unwrap_or (cond (not b) (Some n) (find (is_free rows) (range_with_len
    (n + 1) k))) d ≤ n + reaching n rows) [
      | true ↦ λ used.
          let fewer = used_reaches n rows used in
          let rest = least_low rows d (n + 1) k (rw add-one (omega arith)) in
          let same : reaching (n + 1) rows ≡ reaching (suc n) rows = rw add-one refl in
          omega arith
      | false ↦ λ free. omega arith
    ] refl

pub smallest_is_least : (rows : List ServerRow)
    → IsLeastFree rows first_token (smallest_free_in rows)
smallest_is_least rows = least rows own_token first_token (suc (length rows))
    (let h = reaching-le-length first_token rows in omega arith)

pub smallest_is_low : (rows : List ServerRow) → smallest_free_in rows ≤ first_token + length rows
smallest_is_low rows =
    let h = reaching-le-length first_token rows in
    let low = least_low rows own_token first_token (suc (length rows)) (omega arith) in
    omega arith

-- there is one such number only
pub least_is_one : (rows : List ServerRow) (n x y : ℕ) → IsLeastFree rows n x
    → IsLeastFree rows n y → x ≡ y
least_is_one rows n x y one other =
    let not_above : ¬ (x < y) = λ lt. let clash = sym one.free ∙ other.below x one.from lt in
    cc clash in
    let not_below : ¬ (y < x) = λ lt. let clash = sym other.free ∙ one.below y other.from lt in
    cc clash in
    omega (arith, not_above, not_below)

-- what the search through the numbers, from the first on, has found so far
pub found_least : (rows : List ServerRow) (n : ℕ) → is_used_in rows n ≡ false → first_token ≤ n
    → ((m : ℕ) → first_token ≤ m → m < n → is_used_in rows m ≡ true) → n ≡ smallest_free_in rows
found_least rows n free from below = least_is_one rows first_token n (smallest_free_in rows)
    (record { free = free; from = from; below = below })
    (smallest_is_least rows)

-- there are not as many servers as numbers
pub not_all_used : (rows : List ServerRow) (n : ℕ) → first_token + length rows < n
    → ((m : ℕ) → first_token ≤ m → m < n → is_used_in rows m ≡ true) → ⊥
not_all_used rows n many below =
    let least = smallest_is_least rows in
    let low = smallest_is_low rows in
    let clash = sym least.free ∙ below (smallest_free_in rows) least.from (omega arith) in
    cc clash
