-- Each line of a stream is bytes that a line can carry.
use Rattle.std.proofs.Common.{◌≡◌, ℕ, zero, suc, Bool, true, false, cond, ◌&&◌, ◌||◌, Some}
use Rattle.std.proofs.Common.{None, List, [], ◌∷◌, take, refl, ◌∙◌, ap, if◌then◌else◌}
use Rattle.std.proofs.lemmas.Bool.{or_parts}
use Rattle.std.specs.List.{AllByRecursion, cons_option, filter_map, list_any, onto_first}
use Rattle.std.specs.List.{slice_split}
use Rattle.irc_line.specs.Lemmas.CarriedBytes.{carried_byte}
use Rattle.irc_line.specs.Bytes.{cut, has_nul, is_line_end, is_nul}
use Rattle.irc_line.specs.Carried.{IsCarried, is_carried}
use Rattle.irc_line.specs.Limits.{max_line}
use Rattle.irc_line.specs.Lines.{earlier_pieces, is_empty, line_of, lines}
use Rattle.irc_daemons.proofs.Open.{StreamLinesAreCarried}

-- no line ends within it
abbrev NoEnd : List ℕ → Type 0
NoEnd piece = list_any is_line_end piece ≡ false

onto_no_end : (x : ℕ) → is_line_end x ≡ false → (pieces : List (List ℕ))
    → AllByRecursion NoEnd pieces → AllByRecursion NoEnd (onto_first x pieces)
onto_no_end x is [] all = (ap (λ b. b || false) is, tt)
onto_no_end x is (piece ∷ pieces) all =
    (ap (λ b. b || list_any is_line_end piece) is ∙ all.0, all.1)

no_ends : (xs : List ℕ) → AllByRecursion NoEnd (slice_split is_line_end xs)
no_ends [] = (refl, tt)
no_ends (x ∷ xs) = by (is_line_end x) refl (no_ends xs)
  where
    by : (b : Bool) → is_line_end x ≡ b
        → AllByRecursion NoEnd (slice_split is_line_end xs) → AllByRecursion NoEnd
        (cond b ([] ∷ slice_split is_line_end xs) (onto_first x (slice_split is_line_end xs)))
    by true is rest = (refl, rest)
    by false is rest = onto_no_end x is (slice_split is_line_end xs) rest

earlier_no_end : (pieces : List (List ℕ)) → AllByRecursion NoEnd pieces
    → AllByRecursion NoEnd (earlier_pieces pieces)
earlier_no_end [] all = tt
earlier_no_end (piece ∷ []) all = tt
earlier_no_end (piece ∷ next ∷ pieces) all = (all.0, earlier_no_end (next ∷ pieces) all.1)

take_carried : (n : ℕ) (xs : List ℕ) → list_any is_line_end xs ≡ false → list_any is_nul xs ≡ false
    → is_carried (take n xs) ≡ true
take_carried zero xs no_end no_nul = refl
take_carried (suc n) [] no_end no_nul = refl
take_carried (suc n) (x ∷ xs) no_end no_nul =
    let ends = or_parts (is_line_end x) (list_any is_line_end xs) no_end in
    let nuls = or_parts (is_nul x) (list_any is_nul xs) no_nul in
    ap (λ b. b && is_carried (take n xs)) (carried_byte (is_nul x) (is_line_end x) nuls.0 ends.0)
    ∙ take_carried n xs ends.1 nuls.1

cut_carried : (piece : List ℕ) → list_any is_line_end piece ≡ false → list_any is_nul piece ≡ false
    → IsCarried (cut piece)
unfolding cut
cut_carried piece no_end no_nul = take_carried max_line piece no_end no_nul

found_carried : (pieces : List (List ℕ)) → AllByRecursion NoEnd pieces
    → AllByRecursion IsCarried (filter_map line_of pieces)
found_carried [] all = tt
found_carried (piece ∷ pieces) all =
    by (is_empty piece || has_nul piece) refl (found_carried pieces all.1)
  where
    by : (b : Bool) → (is_empty piece || has_nul piece) ≡ b
        → AllByRecursion IsCarried (filter_map line_of pieces) → AllByRecursion IsCarried
        (cons_option (if b then None else Some (cut piece)) (filter_map line_of pieces))
    by true is rest = rest
    by false is rest =
        (cut_carried piece all.0 (or_parts (is_empty piece) (has_nul piece) is).1, rest)

pub stream_lines_are_carried : StreamLinesAreCarried
unfolding lines
stream_lines_are_carried stream = found_carried (earlier_pieces (slice_split is_line_end stream))
    (earlier_no_end (slice_split is_line_end stream) (no_ends stream))
