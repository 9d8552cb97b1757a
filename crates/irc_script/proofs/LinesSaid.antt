-- What each line of a stream is.
use Rattle.std.proofs.Common.{◌≡◌, ℕ, ◌<◌, Bool, true, false, ◌||◌, cond, Some, None, List, []}
use Rattle.std.proofs.Common.{◌∷◌, length, take, zero, suc, refl, ap, subst, sym, not, ◌&&◌, ◌∙◌}
use Rattle.std.proofs.Common.{arith}
use Rattle.arrayvec.specs.ArrayVec.{ArrayVec}
use Rattle.irc_line.specs.Carried.{IsCarried, is_carried}
use Rattle.irc_line.specs.Framed.{bytes_of}
use Rattle.irc_script.proofs.Playing.{IsCarriedLine}
use Rattle.std.specs.List.{AllByRecursion, filter_map, cons_option, list_any, onto_first}
use Rattle.std.specs.List.{slice_split}
use Rattle.std.proofs.lemmas.Bool.{or_parts}
use Rattle.irc_names.specs.Lemmas.PlainFacts.{length-take_bound}
use Rattle.irc_line.specs.Bytes.{is_line_end, has_nul, is_nul, cut}
use Rattle.irc_line.specs.Limits.{max_line}
use Rattle.irc_line.specs.Lines.{IsLine, earlier_pieces, line_of, lines}

abbrev HasNoEnd : List ℕ → Type 0
HasNoEnd piece = list_any is_line_end piece ≡ false

first_grows : (x : ℕ) (pieces : List (List ℕ)) → is_line_end x ≡ false
    → AllByRecursion HasNoEnd pieces → AllByRecursion HasNoEnd (onto_first x pieces)
first_grows x [] none all = (ap (λ b. b || false) none, tt)
first_grows x (piece ∷ pieces) none all =
    (ap (λ b. b || list_any is_line_end piece) none ∙ all.0, all.1)

pieces_end_nowhere : (xs : List ℕ) → AllByRecursion HasNoEnd (slice_split is_line_end xs)
pieces_end_nowhere [] = (refl, tt)
pieces_end_nowhere (x ∷ xs) =
    let rest = pieces_end_nowhere xs in
    elim (is_line_end x) as (λ b. is_line_end x ≡ b
    → AllByRecursion HasNoEnd
    (cond b ([] ∷ slice_split is_line_end xs) (onto_first x (slice_split is_line_end xs)))) [
      | true ↦ λ e. (refl, rest)
      | false ↦ λ e. first_grows x (slice_split is_line_end xs) e rest
    ] refl

earlier_too : (pieces : List (List ℕ)) → AllByRecursion HasNoEnd pieces
    → AllByRecursion HasNoEnd (earlier_pieces pieces)
earlier_too [] all = tt
earlier_too (piece ∷ []) all = tt
earlier_too (piece ∷ next ∷ pieces) all = (all.0, earlier_too (next ∷ pieces) all.1)

none_in_front : (p : ℕ → Bool) (n : ℕ) (xs : List ℕ) → list_any p xs ≡ false
    → list_any p (take n xs) ≡ false
none_in_front p zero xs none = refl
none_in_front p (suc n) [] none = refl
none_in_front p (suc n) (x ∷ xs) none =
    let both = or_parts (p x) (list_any p xs) none in
    ap (λ b. b || list_any p (take n xs)) both.0 ∙ none_in_front p n xs both.1

some_length : (x : ℕ) (xs : List ℕ) → 0 < length (take max_line (x ∷ xs))
some_length x xs = omega arith

cut_is_line : (x : ℕ) (xs : List ℕ) → HasNoEnd (x ∷ xs) → has_nul (x ∷ xs) ≡ false
    → IsLine (cut (x ∷ xs))
unfolding cut
cut_is_line x xs no_end no_nul = record {
  some_byte = some_length x xs;
  fits = length-take_bound max_line (x ∷ xs);
  no_nul = none_in_front is_nul max_line (x ∷ xs) no_nul;
  no_end = none_in_front is_line_end max_line (x ∷ xs) no_end;
}

-- the line of a piece, if any, is one
one_line : (piece : List ℕ) (found : List (List ℕ)) → HasNoEnd piece → AllByRecursion IsLine found
    → AllByRecursion IsLine (cons_option (line_of piece) found)
one_line [] found no_end rest = rest
one_line (x ∷ xs) found no_end rest =
    elim (has_nul (x ∷ xs)) as (λ b. has_nul (x ∷ xs) ≡ b
    → AllByRecursion IsLine (cons_option (cond b None (Some (cut (x ∷ xs)))) found)) [
      | true ↦ λ e. rest
      | false ↦ λ e. (cut_is_line x xs no_end e, rest)
    ] refl

each_piece : (pieces : List (List ℕ)) → AllByRecursion HasNoEnd pieces
    → AllByRecursion IsLine (filter_map line_of pieces)
each_piece [] all = tt
each_piece (piece ∷ pieces) all =
    one_line piece (filter_map line_of pieces) all.0 (each_piece pieces all.1)

-- each line of a stream has 1 to 510 bytes, none of them NUL, CR or LF
pub each_is_line : (stream : List ℕ) → AllByRecursion IsLine (lines stream)
unfolding lines
each_is_line stream = each_piece (earlier_pieces (slice_split is_line_end stream))
    (earlier_too (slice_split is_line_end stream) (pieces_end_nowhere stream))

-- ---- a line can be given

both_none : (line : List ℕ) → list_any is_nul line ≡ false → list_any is_line_end line ≡ false
    → is_carried line ≡ true
both_none [] no_nul no_end = refl
both_none (x ∷ xs) no_nul no_end =
    let first = or_parts (is_nul x) (list_any is_nul xs) no_nul in
    let second = or_parts (is_line_end x) (list_any is_line_end xs) no_end in
    ap (λ b. not (b || is_line_end x) && is_carried xs) first.0
    ∙ ap (λ b. not b && is_carried xs) second.0 ∙ both_none xs first.1 second.1

pub line_is_carried : (line : List ℕ) → IsLine line → IsCarried line
line_is_carried line is = both_none line is.no_nul is.no_end

each_carried : (lines : List (ArrayVec ℕ)) → AllByRecursion IsLine (bytes_of lines)
    → AllByRecursion IsCarriedLine lines
each_carried [] all = tt
each_carried (line ∷ lines) all = (line_is_carried line.items all.0, each_carried lines all.1)

-- the lines of what a client says can be given
pub said_is_carried : (said : List (ArrayVec ℕ)) (stream : List ℕ) → bytes_of said ≡ lines stream
    → AllByRecursion IsCarriedLine said
said_is_carried said stream is =
    each_carried said (subst (λ ls. AllByRecursion IsLine ls) (sym is) (each_is_line stream))
