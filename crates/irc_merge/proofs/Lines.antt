-- A list in lines is the list: what is read line by line is read in one.
use Rattle.std.proofs.Common.{◌≡◌, ℕ, ◌+◌, ◌*◌, ◌-◌, ◌<◌, ◌≤◌, Bool, true, suc, zero, List, [], ◌∷◌}
use Rattle.std.proofs.Common.{◌++◌, length, take, drop, refl, sym, ◌∙◌, ap, arith}
use Rattle.std.proofs.Math.Nat.{suc-mul}
use Rattle.std.proofs.lemmas.Bool.{and_parts}
use Rattle.std.proofs.lemmas.Grind.{div_ceil_times}
use Rattle.std.proofs.lemmas.List.{take-append-drop, length-drop}
use Rattle.std.proofs.lemmas.List.Folds.{list_all-append}
use Rattle.std.specs.Int.{div_ceil}
use Rattle.std.specs.List.{list_all, flat_map, AllByRecursion}
use Rattle.std.specs.Simd.{first_chunks}
use Rattle.irc_merge.specs.Bursts.{in_lines}

-- what stands in some lines
abbrev pub joined_lines : {X : Type 0} → List (List X) → List X
joined_lines lines = flat_map (λ line. line) lines

fewer : (l n m : ℕ) → l ≤ m + n → l - n ≤ m
fewer l n m h = omega (arith, h)

nothing_left : {X : Type 0} (n : ℕ) (xs : List X) → length xs ≤ 0 * n → xs ≡ []
nothing_left n [] short = refl
nothing_left n (x ∷ xs) short = absurd (omega (arith, short))

all_chunks : {X : Type 0} (n k : ℕ) (xs : List X) → length xs ≤ k * n
    → joined_lines (first_chunks n k xs) ≡ xs
all_chunks n zero xs short = sym (nothing_left n xs short)
all_chunks n (suc k) xs short =
    ap (λ rest. take n xs ++ rest)
    (all_chunks n k (drop n xs)
    (at_most (length-drop n xs) (fewer (length xs) n (k * n) (at_least (suc-mul k n) short))))
    ∙ take-append-drop n xs
  where
    at_most : {l m o : ℕ} → l ≡ m → m ≤ o → l ≤ o
    at_most e h = omega (arith, e, h)

    at_least : {l m o : ℕ} → m ≡ o → l ≤ m → l ≤ o
    at_least e h = omega (arith, e, h)

pub all_in_lines : {X : Type 0} (n : ℕ) (xs : List X) → 0 < n → joined_lines (in_lines n xs) ≡ xs
unfolding in_lines
all_in_lines n xs some =
    all_chunks n (div_ceil (length xs) n) xs (div_ceil_times (length xs) n some).0

-- what is so of all that stands in some lines, is so of each line
pub each_line : {X : Type 0} (p : X → Bool) (lines : List (List X))
    → list_all p (joined_lines lines) ≡ true → AllByRecursion (λ line. list_all p line ≡ true) lines
each_line p [] all = tt
each_line p (line ∷ lines) all =
    let parts = and_parts _ _ (sym (list_all-append p line (joined_lines lines)) ∙ all) in
    (parts.0, each_line p lines parts.1)
