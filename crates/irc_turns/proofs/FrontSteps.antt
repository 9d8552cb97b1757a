-- The front of bytes that is so many lines, piece by piece.
use Rattle.std.proofs.Common.{◌≡◌, ℕ, ◌+◌, ◌-◌, ◌<◌, ◌≤◌, true, false, ◌||◌, max, nat_lt}
use Rattle.std.proofs.Common.{Option, Some, None, List, [], ◌++◌, length, take, drop, get_or, refl}
use Rattle.std.proofs.Common.{sym, ◌∙◌, ap, subst, arith, length-append, length-drop, add-sub_of_le}
use Rattle.std.specs.List.{prefix_len}
use Rattle.std.proofs.lemmas.List.{get_or-drop}
use Rattle.std.proofs.lemmas.List.Sums.{prefix_len_passes, prefix_len_stops}
use Rattle.std.proofs.Math.Seq.{take-add}
use Rattle.std.proofs.lemmas.Bool.{lt-ltb, le-ltb, ltb-true, ltb-false}
use Rattle.std.proofs.Math.Bool.{or-true}
use Rattle.std.proofs.Math.Nat.{sub-lt_left_of_lt-add}
use Rattle.arrayvec.specs.ArrayVec.{ArrayVec}
use Rattle.irc_line.specs.Bytes.{is_line_end, cut}
use Rattle.irc_line.specs.Framed.{found_in}
use Rattle.irc_line.specs.Laws.{PiecesCompleteTheSame}
use Rattle.irc_line.specs.Lines.{Begun, begun_behind, completed, nothing_begun, lines, tail}
use Rattle.irc_line.specs.Lines.{HasTaken, Takes, EndsNoLine}
use Rattle.irc_turns.specs.Fronts.{lines_in, is_in_front, IsFront, EndsLines}

pub no_lines : (bytes : List ℕ) → lines_in bytes 0 ≡ 0
unfolding lines
no_lines bytes = refl

pub found_one : (line : Option (ArrayVec ℕ)) → length (found_in line) ≤ 1
found_one None = omega arith
found_one (Some line) = omega arith

-- ---- one piece further

pub taken_further : (old new : Begun) (bytes piece : List ℕ) (used more : ℕ) (found : List (List ℕ))
    → piece ≡ drop used bytes → Takes old (take more piece) found new
    → HasTaken old (take used bytes) → HasTaken new (take (used + more) bytes)
taken_further old new bytes piece used more found rest takes taken =
    subst (λ stream. HasTaken new stream) (ap (λ p. take used bytes ++ take more p) rest
    ∙ sym (take-add used more bytes)) (takes.framer (take used bytes) taken)

pub counted_further : (old new : Begun) (bytes piece : List ℕ)
    (used more : ℕ) (found : List (List ℕ)) → piece ≡ drop used bytes
    → Takes old (take more piece) found new → HasTaken old (take used bytes)
    → lines_in bytes (used + more) ≡ lines_in bytes used + length found
counted_further old new bytes piece used more found rest takes taken =
    ap (λ stream. length (lines stream)) (take-add used more bytes
    ∙ ap (λ p. take used bytes ++ take more p) (sym rest))
    ∙ ap length (takes.lines_found (take used bytes) taken)
    ∙ length-append (lines (take used bytes)) found

pub before_further : (old : Begun) (bytes piece : List ℕ) (used more wanted : ℕ)
    → piece ≡ drop used bytes → ((place : ℕ) → place < used → lines_in bytes place < wanted)
    → lines_in bytes used < wanted → ((k : ℕ) → k < more → EndsNoLine old (take k piece))
    → HasTaken old (take used bytes) → (place : ℕ) → place < used + more
    → lines_in bytes place < wanted
before_further old bytes piece used more wanted rest before few none taken place below =
    elim (nat_lt place used) as (λ b. nat_lt place used ≡ b → lines_in bytes place < wanted) [
      | true ↦ λ (e : nat_lt place used ≡ true). before place (ltb-true place used e)
      | false ↦ λ (e : nat_lt place used ≡ false).
          let past = ltb-false place used e in
          let same : lines_in bytes place ≡ lines_in bytes used =
          ap (λ n. length (lines (take n bytes))) (sym (add-sub_of_le past))
          ∙ ap (λ stream. length (lines stream)) (take-add used (place - used) bytes
          ∙ ap (λ p. take used bytes ++ take (place - used) p) (sym rest))
          ∙ ap length
          (none (place - used) (sub-lt_left_of_lt-add past below) (take used bytes) taken) in
          subst (λ n. n < wanted) (sym same) few
    ] refl

-- ---- all of it

nothing_taken : HasTaken nothing_begun []
unfolding tail cut
nothing_taken = refl

-- a longer stream has no fewer lines
no_fewer : PiecesCompleteTheSame → (first second : List ℕ)
    → length (lines first) ≤ length (lines (first ++ second))
no_fewer law first second =
    longer _ _ _ (ap length ((law nothing_begun nothing_taken).in_turn first second).lines
    ∙ length-append (lines first) (completed (begun_behind nothing_begun first) second))
  where
    longer : (all few more : ℕ) → all ≡ few + more → few ≤ all
    longer all few more sum = omega arith

no_fewer_in : PiecesCompleteTheSame → (bytes : List ℕ) (ended ends : ℕ)
    → lines_in bytes ended ≤ lines_in bytes (ended + ends)
no_fewer_in law bytes ended ends =
    subst (λ stream. lines_in bytes ended ≤ length (lines stream)) (sym (take-add ended ends bytes))
    (no_fewer law (take ended bytes) (take ends (drop ended bytes)))

-- a byte before the first that ends no line, and that one
end_there : (bytes : List ℕ) (ended ends : ℕ) → ends ≡ prefix_len is_line_end (drop ended bytes)
    → (place : ℕ) → ended ≤ place → place < ended + ends → is_line_end (get_or bytes place 0) ≡ true
end_there bytes ended ends ends_are place past below =
    ap (λ n. is_line_end (get_or bytes n 0)) (sym (add-sub_of_le past))
    ∙ ap is_line_end (sym (get_or-drop ended bytes (place - ended) 0))
    ∙ prefix_len_passes is_line_end (drop ended bytes) (place - ended) 0
    (subst (λ n. place - ended < n) ends_are (sub-lt_left_of_lt-add past below))

no_end_there : (bytes : List ℕ) (ended ends : ℕ) → ends ≡ prefix_len is_line_end (drop ended bytes)
    → ends < length (drop ended bytes) → is_line_end (get_or bytes (ended + ends) 0) ≡ false
no_end_there bytes ended ends ends_are within =
    ap is_line_end (sym (get_or-drop ended bytes ends 0))
    ∙ ap (λ n. is_line_end (get_or (drop ended bytes) n 0)) ends_are
    ∙ prefix_len_stops is_line_end (drop ended bytes) 0
    (subst (λ n. n < length (drop ended bytes)) ends_are within)

-- the lines, and the line ends behind them
pub front_is : PiecesCompleteTheSame → (wanted : ℕ) (bytes piece : List ℕ) (ended ends : ℕ)
    → EndsLines (max wanted 1) bytes ended → piece ≡ drop ended bytes → ends
    ≡ prefix_len is_line_end piece → ends ≤ length piece → IsFront wanted bytes (ended + ends)
front_is law wanted bytes piece ended ends stops rest ends_are within =
    let behind = ap length rest ∙ length-drop ended bytes in
    let ends_so = ends_are ∙ ap (prefix_len is_line_end) rest in
    record {
      within = reached ended ends _ _ behind within stops.within;
      in_front = λ place below.
          elim (nat_lt place ended) as (λ b. nat_lt place ended ≡ b
          → is_in_front wanted bytes place ≡ true) [
            | true ↦ λ (e : nat_lt place ended ≡ true).
                ap (λ b. b || is_line_end (get_or bytes place 0))
                (lt-ltb _ _ (stops.before place (ltb-true place ended e)))
            | false ↦ λ (e : nat_lt place ended ≡ false).
                ap (λ b. nat_lt (lines_in bytes place) (max wanted 1) || b)
                (end_there bytes ended ends ends_so place (ltb-false place ended e) below)
                ∙ or-true (nat_lt (lines_in bytes place) (max wanted 1))
          ] refl;
      behind = λ further.
          ap (λ b. b || is_line_end (get_or bytes (ended + ends) 0))
          (le-ltb _ _ (enough _ _ _ (no_fewer_in law bytes ended ends)
          (stops.ended (before ended ends _ further))))
          ∙ no_end_there bytes ended ends ends_so (subst (λ p. ends < length p) rest
          (short ended ends _ _ behind further stops.within));
    }
  where
    reached : (used more size behind : ℕ) → behind ≡ size - used → more ≤ behind → used ≤ size
        → used + more ≤ size
    reached used more size behind rest within before = omega arith

    short : (used more size behind : ℕ) → behind ≡ size - used → used + more < size → used ≤ size
        → more < behind
    short used more size behind rest within before = omega arith

    before : (used more size : ℕ) → used + more < size → used < size
    before used more size further = omega arith

    enough : (few all wanted : ℕ) → few ≤ all → few ≡ wanted → wanted ≤ all
    enough few all wanted more same = omega arith
