-- Each line is counted as it begins, and none ends that has not begun.
use Rattle.std.proofs.Common.{◌≡◌, ℕ, ◌+◌, ◌-◌, ◌*◌, ◌≤◌, Bool, true, false, not, ◌&&◌, cond, List}
use Rattle.std.proofs.Common.{[], ◌∷◌, length, refl, ◌∙◌, arith, suc, ◌||◌, Some, None, le_refl}
use Rattle.std.proofs.Common.{le_trans}
use Rattle.std.specs.List.{slice_split, filter_map, onto_first, cons_option}
use Rattle.irc_line.specs.Bytes.{is_line_end, has_nul, cut}
use Rattle.irc_line.specs.Lines.{lines, line_of, earlier_pieces, is_empty}
use Rattle.irc_turns.specs.Allowances.{said_byte, begun_in, LinesAreCounted, NoneEndsUnbegun}
use Rattle.irc_turns.specs.Allowances.{SaidInPieces}

-- ---- what is left

less : (left more all : ℕ) → all ≡ 1 + more → left - 1000 - more * 1000 ≡ left - all * 1000
less left more all sum = omega arith

same : (left more all : ℕ) → all ≡ 0 + more → left - more * 1000 ≡ left - all * 1000
same left more all sum = omega arith

one_byte : (b : Bool) (left more : ℕ)
    → cond b (left - 1000) left - more * 1000 ≡ left - (cond b 1 0 + more) * 1000
one_byte true left more = less left more _ refl
one_byte false left more = same left more _ refl

none_taken : (left : ℕ) → left ≡ left - 0 * 1000
none_taken left = omega arith

pub lines_counted : LinesAreCounted
lines_counted [] allowance = none_taken allowance.thousandths
lines_counted (byte ∷ bytes) allowance =
    lines_counted bytes (said_byte allowance byte)
    ∙ one_byte (not (is_line_end byte) && not allowance.is_begun) allowance.thousandths
    (begun_in (not (is_line_end byte)) bytes)

-- ---- pieces that are not empty, but for the last, and but for the first too

abbrev pub some_in : List (List ℕ) → ℕ
some_in [] = 0
some_in (piece ∷ []) = 0
some_in (piece ∷ next ∷ pieces) = cond (is_empty piece) 0 1 + some_in (next ∷ pieces)

abbrev some_behind : List (List ℕ) → ℕ
some_behind [] = 0
some_behind (piece ∷ pieces) = some_in pieces

nothing_in : (pieces : List (List ℕ)) → some_in ([] ∷ pieces) ≤ some_in pieces
nothing_in [] = omega arith
nothing_in (next ∷ pieces) = none_more (some_in (next ∷ pieces))
  where
    none_more : (n : ℕ) → 0 + n ≤ n
    none_more n = omega arith

one_in : (byte : ℕ) (pieces : List (List ℕ))
    → some_in (onto_first byte pieces) ≤ 1 + some_behind pieces
one_in byte [] = omega arith
one_in byte (piece ∷ []) = omega arith
one_in byte (piece ∷ next ∷ pieces) = one_more (some_in (next ∷ pieces))
  where
    one_more : (n : ℕ) → 1 + n ≤ 1 + n
    one_more n = omega arith

none_behind : (byte : ℕ) (pieces : List (List ℕ))
    → some_behind (onto_first byte pieces) ≤ some_behind pieces
none_behind byte [] = omega arith
none_behind byte (piece ∷ pieces) = le_refl (some_in pieces)

one_through : (a b c : ℕ) → a ≤ 1 + b → b ≤ c → a ≤ 1 + c
one_through a b c first second = omega arith

no_less : (a c : ℕ) → a ≤ c → a ≤ 0 + c
no_less a c less = omega arith

-- no more of them than lines begin: of all, where none has begun, and behind the first, where one
-- has
record AreBegun (bytes : List ℕ) : Type 0 where
  all : some_in (slice_split is_line_end bytes) ≤ begun_in false bytes
  behind : some_behind (slice_split is_line_end bytes) ≤ begun_in true bytes

abbrev pub split_by : Bool → ℕ → List (List ℕ) → List (List ℕ)
split_by b byte pieces = cond b ([] ∷ pieces) (onto_first byte pieces)

one_more : (b : Bool) (byte : ℕ) (bytes : List ℕ) → AreBegun bytes
    → (some_in (split_by b byte (slice_split is_line_end bytes))
    ≤ cond (not b && not false) 1 0 + begun_in (not b) bytes)
    × (some_behind (split_by b byte (slice_split is_line_end bytes))
    ≤ cond (not b && not true) 1 0 + begun_in (not b) bytes)
one_more true byte bytes so = (
  no_less _ _ (le_trans (nothing_in (slice_split is_line_end bytes)) so.all),
  no_less _ _ so.all,
)
one_more false byte bytes so = (
  one_through _ _ _ (one_in byte (slice_split is_line_end bytes)) so.behind,
  no_less _ _ (le_trans (none_behind byte (slice_split is_line_end bytes)) so.behind),
)

are_begun : (bytes : List ℕ) → AreBegun bytes
are_begun [] = record { all = omega arith; behind = omega arith }
are_begun (byte ∷ bytes) =
    let so = one_more (is_line_end byte) byte bytes (are_begun bytes) in
    record { all = so.0; behind = so.1 }

-- ---- a line is a piece that is not empty

one_line : (empty nul : Bool) (line : List ℕ) (found : List (List ℕ)) (more : ℕ)
    → length found ≤ more
    → length (cons_option (cond (empty || nul) None (Some line)) found) ≤ cond empty 0 1 + more
one_line true nul line found more few = no_less _ _ few
one_line false true line found more few = grown (length found) more few
  where
    grown : (n more : ℕ) → n ≤ more → n ≤ 1 + more
    grown n more few = omega arith
one_line false false line found more few = grown (length found) more few
  where
    grown : (n more : ℕ) → n ≤ more → suc n ≤ 1 + more
    grown n more few = omega arith

few_lines : (pieces : List (List ℕ))
    → length (filter_map line_of (earlier_pieces pieces)) ≤ some_in pieces
few_lines [] = omega arith
few_lines (piece ∷ []) = omega arith
few_lines (piece ∷ next ∷ pieces) =
    one_line (is_empty piece) (has_nul piece) (cut piece) _ _ (few_lines (next ∷ pieces))

pub none_unbegun : NoneEndsUnbegun
unfolding lines
none_unbegun bytes =
    le_trans (few_lines (slice_split is_line_end bytes)) (are_begun bytes).all

-- ---- in pieces

pub said_in_pieces : SaidInPieces
said_in_pieces [] second allowance = refl
said_in_pieces (byte ∷ first) second allowance =
    said_in_pieces first second (said_byte allowance byte)
