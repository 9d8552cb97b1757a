-- Of the front that a turn takes no more lines begin than are to be in it.
use Rattle.std.proofs.Common.{◌≡◌, ℕ, zero, suc, ◌+◌, ◌<◌, ◌≤◌, Bool, true, false, not, ◌&&◌, ◌||◌}
use Rattle.std.proofs.Common.{Some, None, List, [], ◌∷◌, ◌++◌, length, take, get_or, refl, sym}
use Rattle.std.proofs.Common.{◌∙◌, ap, subst, arith, take-suc, cond, max, le_refl}
use Rattle.std.proofs.lemmas.Bool.{ltb-true, true≢false, or_from, or_parts}
use Rattle.std.specs.List.{slice_split, filter_map, onto_first, cons_option, list_any}
use Rattle.std.proofs.Math.Nat.{le_of_suc-le}
use Rattle.irc_line.specs.Bytes.{is_line_end, has_nul, is_nul, cut}
use Rattle.irc_line.specs.Lines.{lines, line_of, earlier_pieces, is_empty}
use Rattle.irc_turns.specs.Fronts.{IsFront, lines_in}
use Rattle.irc_turns.specs.Allowances.{begun_in, FrontBegins}
use Rattle.irc_turns.proofs.LinesCounted.{some_in, split_by}

-- ---- one byte more

-- whether a line has begun and not ended behind bytes
abbrev is_open : Bool → List ℕ → Bool
is_open is_begun [] = is_begun
is_open is_begun (byte ∷ bytes) = is_open (not (is_line_end byte)) bytes

one_byte_more : (is_begun : Bool) (bytes : List ℕ) (byte : ℕ)
    → begun_in is_begun (bytes ++ byte ∷ [])
    ≡ begun_in is_begun bytes + cond (not (is_line_end byte) && not (is_open is_begun bytes)) 1 0
one_byte_more is_begun [] byte = turned (cond (not (is_line_end byte) && not is_begun) 1 0)
  where
    turned : (n : ℕ) → n + 0 ≡ 0 + n
    turned n = omega arith
one_byte_more is_begun (first ∷ bytes) byte =
    let one = cond (not (is_line_end first) && not is_begun) 1 0 in
    ap (λ n. one + n) (one_byte_more (not (is_line_end first)) bytes byte)
    ∙ apart one (begun_in (not (is_line_end first)) bytes) _
  where
    apart : (a b c : ℕ) → a + (b + c) ≡ a + b + c
    apart a b c = omega arith

-- ---- where none is open each that has begun has ended

fewer_by : (is_end is_begun : Bool) (n : ℕ)
    → cond (not is_end && not is_begun) 1 0 + n ≤ cond (not is_end && not false) 1 0 + n
fewer_by true is_begun n = omega arith
fewer_by false true n = omega arith
fewer_by false false n = omega arith

-- no more begin where one has begun already
fewer : (is_begun : Bool) (bytes : List ℕ) → begun_in is_begun bytes ≤ begun_in false bytes
fewer is_begun [] = omega arith
fewer is_begun (byte ∷ bytes) =
    fewer_by (is_line_end byte) is_begun (begun_in (not (is_line_end byte)) bytes)

closed : (is_begun : Bool) (bytes : List ℕ) → is_open is_begun bytes ≡ false
    → is_open false bytes ≡ false
closed is_begun [] none = refl
closed is_begun (byte ∷ bytes) none = none

as_many : (pieces : List (List ℕ)) → some_in pieces ≤ some_in ([] ∷ pieces)
as_many [] = omega arith
as_many (next ∷ pieces) = no_less (some_in (next ∷ pieces))
  where
    no_less : (n : ℕ) → n ≤ 0 + n
    no_less n = omega arith

one_first : (x : ℕ) (b : Bool) (byte : ℕ) (pieces : List (List ℕ))
    → 1 + some_in (split_by b byte pieces) ≤ some_in ((x ∷ []) ∷ split_by b byte pieces)
one_first x true byte pieces = le_refl (1 + some_in ([] ∷ pieces))
one_first x false byte [] = omega arith
one_first x false byte (piece ∷ pieces) = le_refl (1 + some_in ((byte ∷ piece) ∷ pieces))

one_before : (x : ℕ) (bytes : List ℕ) → 1 + some_in (slice_split is_line_end bytes)
    ≤ some_in ((x ∷ []) ∷ slice_split is_line_end bytes)
one_before x [] = omega arith
one_before x (byte ∷ bytes) = one_first x (is_line_end byte) byte (slice_split is_line_end bytes)

twice : (x byte : ℕ) (pieces : List (List ℕ))
    → some_in (onto_first byte pieces) ≤ some_in (onto_first x (onto_first byte pieces))
twice x byte [] = omega arith
twice x byte (piece ∷ []) = omega arith
twice x byte (piece ∷ next ∷ pieces) = le_refl (1 + some_in (next ∷ pieces))

record AreEnded (bytes : List ℕ) : Type 0 where
  outside : is_open false bytes ≡ false
      → begun_in false bytes ≤ some_in (slice_split is_line_end bytes)
  inside : (x : ℕ) → is_open true bytes ≡ false
      → 1 + begun_in true bytes ≤ some_in (onto_first x (slice_split is_line_end bytes))

ended_one : (b : Bool) (byte : ℕ) (bytes : List ℕ) → AreEnded bytes
    → (is_open (not b) bytes ≡ false → cond (not b && not false) 1 0 + begun_in (not b) bytes
    ≤ some_in (split_by b byte (slice_split is_line_end bytes)))
    × ((x : ℕ) → is_open (not b) bytes ≡ false
    → 1 + (cond (not b && not true) 1 0 + begun_in (not b) bytes)
    ≤ some_in (onto_first x (split_by b byte (slice_split is_line_end bytes))))
ended_one true byte bytes so = (
  (λ none. through _ _ _ (so.outside none) (as_many (slice_split is_line_end bytes))),
  (λ x none. one_through _ _ _ (so.outside none) (one_before x bytes)),
)
  where
    through : (a b c : ℕ) → a ≤ b → b ≤ c → 0 + a ≤ c
    through a b c first second = omega arith

    one_through : (a b c : ℕ) → a ≤ b → 1 + b ≤ c → 1 + (0 + a) ≤ c
    one_through a b c first second = omega arith
ended_one false byte bytes so = (
  (λ none. so.inside byte none),
  (λ x none. through _ _ _ (so.inside byte none) (twice x byte (slice_split is_line_end bytes))),
)
  where
    through : (a b c : ℕ) → 1 + a ≤ b → b ≤ c → 1 + (0 + a) ≤ c
    through a b c first second = omega arith

are_ended : (bytes : List ℕ) → AreEnded bytes
are_ended [] = record { outside = λ none. omega arith; inside = λ x none. absurd (true≢false none) }
are_ended (byte ∷ bytes) =
    let so = ended_one (is_line_end byte) byte bytes (are_ended bytes) in
    record { outside = so.0; inside = so.1 }

-- ---- without a NUL each piece that is not empty is a line

clean_first : (byte : ℕ) (pieces : List (List ℕ)) → is_nul byte ≡ false
    → list_any has_nul pieces ≡ false → list_any has_nul (onto_first byte pieces) ≡ false
clean_first byte [] none clean = or_from _ _ (or_from _ _ none refl) refl
clean_first byte (piece ∷ pieces) none clean =
    or_from _ _ (or_from _ _ none (or_parts _ _ clean).0) (or_parts (has_nul piece) _ clean).1

clean_one : (b : Bool) (byte : ℕ) (pieces : List (List ℕ)) → is_nul byte ≡ false
    → list_any has_nul pieces ≡ false → list_any has_nul (split_by b byte pieces) ≡ false
clean_one true byte pieces none clean = clean
clean_one false byte pieces none clean = clean_first byte pieces none clean

clean_pieces : (bytes : List ℕ) → has_nul bytes ≡ false
    → list_any has_nul (slice_split is_line_end bytes) ≡ false
clean_pieces [] clean = refl
clean_pieces (byte ∷ bytes) clean =
    clean_one (is_line_end byte) byte (slice_split is_line_end bytes) (or_parts _ _ clean).0
    (clean_pieces bytes (or_parts (is_nul byte) _ clean).1)

one_kept : (empty nul : Bool) (line : List ℕ) (found : List (List ℕ)) (more : ℕ) → nul ≡ false
    → more ≤ length found
    → cond empty 0 1 + more ≤ length (cons_option (cond (empty || nul) None (Some line)) found)
one_kept true nul line found more none few = none_more more (length found) few
  where
    none_more : (more n : ℕ) → more ≤ n → 0 + more ≤ n
    none_more more n few = omega arith
one_kept false true line found more none few = absurd (true≢false none)
one_kept false false line found more none few = grown more (length found) few
  where
    grown : (more n : ℕ) → more ≤ n → 1 + more ≤ suc n
    grown more n few = omega arith

enough_lines : (pieces : List (List ℕ)) → list_any has_nul pieces ≡ false
    → some_in pieces ≤ length (filter_map line_of (earlier_pieces pieces))
enough_lines [] clean = omega arith
enough_lines (piece ∷ []) clean = omega arith
enough_lines (piece ∷ next ∷ pieces) clean =
    one_kept (is_empty piece) (has_nul piece) (cut piece) _ _ (or_parts _ _ clean).0
    (enough_lines (next ∷ pieces) (or_parts (has_nul piece) _ clean).1)

all_ended : (is_begun : Bool) (bytes : List ℕ) → has_nul bytes ≡ false
    → is_open is_begun bytes ≡ false → begun_in is_begun bytes ≤ length (lines bytes)
unfolding lines
all_ended is_begun bytes clean none =
    through _ _ _ _ (fewer is_begun bytes)
    ((are_ended bytes).outside (closed is_begun bytes none))
    (enough_lines (slice_split is_line_end bytes) (clean_pieces bytes clean))
  where
    through : (a b c d : ℕ) → a ≤ b → b ≤ c → c ≤ d → a ≤ d
    through a b c d first second third = omega arith

-- ---- byte by byte of a front

clean_front : (k : ℕ) (bytes : List ℕ) → has_nul bytes ≡ false → has_nul (take k bytes) ≡ false
clean_front zero bytes clean = refl
clean_front (suc k) [] clean = refl
clean_front (suc k) (byte ∷ bytes) clean =
    or_from _ _ (or_parts _ _ clean).0 (clean_front k bytes (or_parts (is_nul byte) _ clean).1)

is_true : (a b : Bool) → (a || b) ≡ true → b ≡ false → a ≡ true
is_true true b e none = refl
is_true false b e none = sym none ∙ e

module _ (wanted : ℕ) (bytes : List ℕ) (count : ℕ) (is_begun : Bool)
    (clean : has_nul bytes ≡ false) (front : IsFront wanted bytes count) where
  turn : (k : ℕ) (e o : Bool) → k < count → is_line_end (get_or bytes k 0) ≡ e
      → is_open is_begun (take k bytes) ≡ o → begun_in is_begun (take k bytes) ≤ max wanted 1
      → begun_in is_begun (take k bytes) + cond (not e && not o) 1 0 ≤ max wanted 1
  turn k true o below is_end is_so so = none_more _ _ so
    where
      none_more : (n most : ℕ) → n ≤ most → n + 0 ≤ most
      none_more n most so = omega arith
  turn k false true below is_end is_so so = none_more _ _ so
    where
      none_more : (n most : ℕ) → n ≤ most → n + 0 ≤ most
      none_more n most so = omega arith
  turn k false false below is_end is_so so =
      one_more _ _ _ (all_ended is_begun (take k bytes) (clean_front k bytes clean) is_so)
      (ltb-true (lines_in bytes k) (max wanted 1) (is_true _ _ (front.in_front k below) is_end))
    where
      one_more : (n ended most : ℕ) → n ≤ ended → ended < most → n + 1 ≤ most
      one_more n ended most few below = omega arith

  begun_at : (k : ℕ) → k ≤ count → begun_in is_begun (take k bytes) ≤ max wanted 1
  begun_at zero within = nothing (max wanted 1)
    where
      nothing : (n : ℕ) → 0 ≤ n
      nothing n = omega arith
  begun_at (suc k) within =
      subst (λ n. n ≤ max wanted 1)
      (sym (ap (begun_in is_begun) (take-suc bytes k 0 (there k count (length bytes) within
      front.within)) ∙ one_byte_more is_begun (take k bytes) (get_or bytes k 0)))
      (turn k (is_line_end (get_or bytes k 0)) (is_open is_begun (take k bytes))
      (below k count within) refl refl (begun_at k (le_of_suc-le within)))
    where
      there : (k count size : ℕ) → suc k ≤ count → count ≤ size → k < size
      there k count size within inside = omega arith

      below : (k count : ℕ) → suc k ≤ count → k < count
      below k count within = omega arith

pub front_begins : FrontBegins
front_begins wanted bytes count is_begun clean front =
    begun_at wanted bytes count is_begun clean front count (le_refl count)
