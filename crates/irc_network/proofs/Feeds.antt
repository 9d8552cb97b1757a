-- Bytes that end in an LF, and how many there are through the first.
use Rattle.std.proofs.Common.{◌≡◌, ℕ, zero, suc, ◌+◌, ◌≤◌, ◌==◌, Bool, true, false, List, [], ◌∷◌}
use Rattle.std.proofs.Common.{◌++◌, drop, length, refl, sym, ◌∙◌, ap, arith, if◌then◌else◌}
use Rattle.std.proofs.Math.Seq.{drop-nil}
use Rattle.irc_line.specs.Bytes.{line_feed}
use Rattle.irc_pipes.specs.Pipes.{is_none, through_line_feed}
use Rattle.irc_network.specs.Whole.{ends_in_feed}

-- ---- the last byte

pub drop_ends : (n : ℕ) (bytes : List ℕ) → ends_in_feed bytes ≡ true
    → ends_in_feed (drop n bytes) ≡ true
drop_ends zero bytes ends = ends
drop_ends (suc n) [] ends = refl
drop_ends (suc n) (byte ∷ []) ends = ap ends_in_feed (drop-nil n)
drop_ends (suc n) (byte ∷ next ∷ bytes) ends = drop_ends n (next ∷ bytes) ends

pub append_ends : (one other : List ℕ) → is_none other ≡ false → ends_in_feed other ≡ true
    → ends_in_feed (one ++ other) ≡ true
append_ends [] other some ends = ends
append_ends (byte ∷ []) [] some ends = cc some
append_ends (byte ∷ []) (next ∷ other) some ends = ends
append_ends (byte ∷ next ∷ one) other some ends = append_ends (next ∷ one) other some ends

-- ---- through the first LF

pub within_all : (bytes : List ℕ) → through_line_feed bytes ≤ length bytes
within_all [] = omega arith
within_all (byte ∷ bytes) = by (byte == line_feed) (within_all bytes)
  where
    by : (b : Bool) → through_line_feed bytes ≤ length bytes
        → (if b then 1 else suc (through_line_feed bytes)) ≤ suc (length bytes)
    by true rest = omega arith
    by false rest = omega (arith, rest)

-- the first is within what ends in one
pub through_first : (one other : List ℕ) → is_none one ≡ false → ends_in_feed one ≡ true
    → through_line_feed (one ++ other) ≡ through_line_feed one
through_first [] other some ends = cc some
through_first (byte ∷ []) other some ends =
    ap (λ b. if b then 1 else suc (through_line_feed other)) ends
    ∙ sym (ap (λ b. if b then 1 else 1) ends)
through_first (byte ∷ next ∷ one) other some ends =
    ap (λ n. if byte == line_feed then 1 else suc n) (through_first (next ∷ one) other refl ends)

-- ---- so many bytes of a list

-- they leave some, or are as many as there are, and perhaps more
pub data IsOf (come : ℕ) (bytes : List ℕ) : Type 0 where
  some_left : come ≤ length bytes → is_none (drop come bytes) ≡ false → IsOf come bytes
  past_all : (more : ℕ) → come ≡ length bytes + more → IsOf come bytes

pub is_of : (come : ℕ) (bytes : List ℕ) → IsOf come bytes
is_of come [] = past_all come (omega arith)
is_of zero (byte ∷ bytes) = some_left (omega arith) refl
is_of (suc come) (byte ∷ bytes) = by (is_of come bytes)
  where
    by : IsOf come bytes → IsOf (suc come) (byte ∷ bytes)
    by (some_left within left) = some_left (omega (arith, within)) left
    by (past_all more is) = past_all more (omega (arith, is))
