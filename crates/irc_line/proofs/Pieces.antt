-- How the pieces of a stream, its tail and its lines go on with more bytes.
use Rattle.std.proofs.Common.{◌≡◌, ℕ, Bool, true, false, ◌||◌, cond, Some, None, List, [], ◌∷◌}
use Rattle.std.proofs.Common.{◌++◌, refl, sym, ◌∙◌, ap, append_assoc, append-nil}
use Rattle.std.specs.Prelude.{option_to_list}
use Rattle.std.specs.List.{slice_split, onto_first, filter_map, list_any, cons_option}
use Rattle.std.proofs.lemmas.List.Elements.{filter_map-append}
use Rattle.irc_line.specs.Bytes.{is_line_end}
use Rattle.irc_line.specs.Lines.{last_piece, earlier_pieces, line_of, tail, lines}

-- ps with ys at the end of its last piece
abbrev pub onto_last : List (List ℕ) → List ℕ → List (List ℕ)
onto_last [] ys = ys ∷ []
onto_last (p ∷ []) ys = (p ++ ys) ∷ []
onto_last (p ∷ q ∷ ps) ys = p ∷ onto_last (q ∷ ps) ys

-- pieces are never none
record IsSome (ps : List (List ℕ)) : Type 0 where
  first : List ℕ
  rest : List (List ℕ)
  is : ps ≡ first ∷ rest

onto_first_some : (x : ℕ) (ps : List (List ℕ)) → IsSome (onto_first x ps)
onto_first_some x [] = record { first = x ∷ []; rest = []; is = refl }
onto_first_some x (p ∷ ps) = record { first = x ∷ p; rest = ps; is = refl }

pieces_some : (p : ℕ → Bool) (xs : List ℕ) → IsSome (slice_split p xs)
pieces_some p [] = record { first = []; rest = []; is = refl }
pieces_some p (x ∷ xs) =
    elim (p x) as (λ b. IsSome (cond b ([] ∷ slice_split p xs) (onto_first x (slice_split p xs)))) [
      | true ↦ record { first = []; rest = slice_split p xs; is = refl }
      | false ↦ onto_first_some x (slice_split p xs)
    ]

onto_first_onto_last : (x : ℕ) (ps : List (List ℕ)) (ys : List ℕ) → IsSome ps
    → onto_first x (onto_last ps ys) ≡ onto_last (onto_first x ps) ys
onto_first_onto_last x [] ys s = cc (s.is)
onto_first_onto_last x (p ∷ []) ys s = refl
onto_first_onto_last x (p ∷ q ∷ ps) ys s = refl

under_onto_last : (ps : List (List ℕ)) (ys : List ℕ) → IsSome ps
    → [] ∷ onto_last ps ys ≡ onto_last ([] ∷ ps) ys
under_onto_last [] ys s = cc (s.is)
under_onto_last (p ∷ ps) ys s = refl

-- bytes without an end are one piece
one_piece : (p : ℕ → Bool) (ys : List ℕ) → list_any p ys ≡ false → slice_split p ys ≡ ys ∷ []
one_piece p [] none = refl
one_piece p (y ∷ ys) none =
    elim (p y) as (λ b. (b || list_any p ys) ≡ false
    → cond b ([] ∷ slice_split p ys) (onto_first y (slice_split p ys)) ≡ (y ∷ ys) ∷ []) [
      | true ↦ λ (h : true ≡ false). cc h
      | false ↦ λ (h : list_any p ys ≡ false). ap (onto_first y) (one_piece p ys h)
    ] none

-- bytes without an end go to the last piece
split-run : (p : ℕ → Bool) (xs ys : List ℕ) → list_any p ys ≡ false
    → slice_split p (xs ++ ys) ≡ onto_last (slice_split p xs) ys
split-run p [] ys none = one_piece p ys none
split-run p (x ∷ xs) ys none =
    let more = split-run p xs ys none in
    let some = pieces_some p xs in
    elim (p x) as
    (λ b. cond b ([] ∷ slice_split p (xs ++ ys)) (onto_first x (slice_split p (xs ++ ys)))
    ≡ onto_last (cond b ([] ∷ slice_split p xs) (onto_first x (slice_split p xs))) ys) [
      | true ↦ ap (λ ps. [] ∷ ps) more ∙ under_onto_last (slice_split p xs) ys some
      | false ↦ ap (onto_first x) more ∙ onto_first_onto_last x (slice_split p xs) ys some
    ]

last_piece-onto_last : (ps : List (List ℕ)) (ys : List ℕ)
    → last_piece (onto_last ps ys) ≡ last_piece ps ++ ys
last_piece-onto_last [] ys = refl
last_piece-onto_last (p ∷ []) ys = refl
last_piece-onto_last (p ∷ q ∷ []) ys = refl
last_piece-onto_last (p ∷ q ∷ r ∷ ps) ys = last_piece-onto_last (q ∷ r ∷ ps) ys

earlier_pieces-onto_last : (ps : List (List ℕ)) (ys : List ℕ)
    → earlier_pieces (onto_last ps ys) ≡ earlier_pieces ps
earlier_pieces-onto_last [] ys = refl
earlier_pieces-onto_last (p ∷ []) ys = refl
earlier_pieces-onto_last (p ∷ q ∷ []) ys = refl
earlier_pieces-onto_last (p ∷ q ∷ r ∷ ps) ys =
    ap (λ qs. p ∷ qs) (earlier_pieces-onto_last (q ∷ r ∷ ps) ys)

onto_first-append : (x : ℕ) (ps qs : List (List ℕ)) → IsSome ps
    → onto_first x (ps ++ qs) ≡ onto_first x ps ++ qs
onto_first-append x [] qs s = cc (s.is)
onto_first-append x (p ∷ ps) qs s = refl

-- an end begins a new piece
split-end : (p : ℕ → Bool) (xs : List ℕ) (y : ℕ) → p y ≡ true
    → slice_split p (xs ++ y ∷ []) ≡ slice_split p xs ++ [] ∷ []
split-end p [] y ends = ap (λ b. cond b ([] ∷ [] ∷ []) ((y ∷ []) ∷ [])) ends
split-end p (x ∷ xs) y ends =
    let more = split-end p xs y ends in
    let some = pieces_some p xs in
    elim (p x) as (λ b. cond b ([] ∷ slice_split p (xs ++ y ∷ []))
    (onto_first x (slice_split p (xs ++ y ∷ [])))
    ≡ cond b ([] ∷ slice_split p xs) (onto_first x (slice_split p xs)) ++ [] ∷ []) [
      | true ↦ ap (λ ps. [] ∷ ps) more
      | false ↦ ap (onto_first x) more ∙ onto_first-append x (slice_split p xs) ([] ∷ []) some
    ]

last_piece-end : (ps : List (List ℕ)) → last_piece (ps ++ [] ∷ []) ≡ []
last_piece-end [] = refl
last_piece-end (p ∷ []) = refl
last_piece-end (p ∷ q ∷ ps) = last_piece-end (q ∷ ps)

earlier_pieces-end : (ps : List (List ℕ)) → earlier_pieces (ps ++ [] ∷ []) ≡ ps
earlier_pieces-end [] = refl
earlier_pieces-end (p ∷ []) = refl
earlier_pieces-end (p ∷ q ∷ ps) = ap (λ qs. p ∷ qs) (earlier_pieces-end (q ∷ ps))

earlier_and_last : (ps : List (List ℕ)) → IsSome ps → ps ≡ earlier_pieces ps ++ last_piece ps ∷ []
earlier_and_last [] s = cc (s.is)
earlier_and_last (p ∷ []) s = refl
earlier_and_last (p ∷ q ∷ ps) s =
    ap (λ qs. p ∷ qs) (earlier_and_last (q ∷ ps) (record { first = q; rest = ps; is = refl }))

one_line : (piece : List ℕ) → filter_map line_of (piece ∷ []) ≡ option_to_list (line_of piece)
one_line piece = elim (line_of piece) as (λ l. cons_option l [] ≡ option_to_list l) [
  | None ↦ refl
  | Some l ↦ refl
]

-- bytes without an end lengthen the tail, and no line ends
pub tail-run : (xs ys : List ℕ) → list_any is_line_end ys ≡ false → tail (xs ++ ys) ≡ tail xs ++ ys
unfolding tail
tail-run xs ys none =
    ap last_piece (split-run is_line_end xs ys none)
    ∙ last_piece-onto_last (slice_split is_line_end xs) ys

pub lines-run : (xs ys : List ℕ) → list_any is_line_end ys ≡ false → lines (xs ++ ys) ≡ lines xs
unfolding lines
lines-run xs ys none =
    ap (λ ps. filter_map line_of (earlier_pieces ps)) (split-run is_line_end xs ys none)
    ∙ ap (filter_map line_of) (earlier_pieces-onto_last (slice_split is_line_end xs) ys)

-- a line end leaves no tail, and gives the line that the tail is
pub tail-end : (xs : List ℕ) (y : ℕ) → is_line_end y ≡ true → tail (xs ++ y ∷ []) ≡ []
unfolding tail
tail-end xs y ends =
    ap last_piece (split-end is_line_end xs y ends) ∙ last_piece-end (slice_split is_line_end xs)

pub lines-end : (xs : List ℕ) (y : ℕ) → is_line_end y ≡ true
    → lines (xs ++ y ∷ []) ≡ lines xs ++ option_to_list (line_of (tail xs))
unfolding lines tail
lines-end xs y ends =
    let pieces = slice_split is_line_end xs in
    ap (λ ps. filter_map line_of (earlier_pieces ps)) (split-end is_line_end xs y ends)
    ∙ ap (filter_map line_of) (earlier_pieces-end pieces)
    ∙ ap (filter_map line_of) (earlier_and_last pieces (pieces_some is_line_end xs))
    ∙ filter_map-append line_of (earlier_pieces pieces) (last_piece pieces ∷ [])
    ∙ ap (λ ls. filter_map line_of (earlier_pieces pieces) ++ ls) (one_line (last_piece pieces))

last_piece-onto_first : (p : ℕ → Bool) (x : ℕ) (ps : List (List ℕ)) → IsSome ps → p x ≡ false
    → list_any p (last_piece ps) ≡ false → list_any p (last_piece (onto_first x ps)) ≡ false
last_piece-onto_first p x [] some goes_on none = cc (some.is)
last_piece-onto_first p x (f ∷ []) some goes_on none = ap (λ b. b || list_any p f) goes_on ∙ none
last_piece-onto_first p x (f ∷ g ∷ ps) some goes_on none = none

last_piece-under : (ps : List (List ℕ)) → IsSome ps → last_piece ([] ∷ ps) ≡ last_piece ps
last_piece-under [] some = cc (some.is)
last_piece-under (p ∷ ps) some = refl

last_piece_has_none : (p : ℕ → Bool) (xs : List ℕ)
    → list_any p (last_piece (slice_split p xs)) ≡ false
last_piece_has_none p [] = refl
last_piece_has_none p (x ∷ xs) =
    let none = last_piece_has_none p xs in
    let some = pieces_some p xs in
    elim (p x) as (λ b. p x ≡ b → list_any p
    (last_piece (cond b ([] ∷ slice_split p xs) (onto_first x (slice_split p xs)))) ≡ false) [
      | true ↦ λ ends. ap (list_any p) (last_piece-under (slice_split p xs) some) ∙ none
      | false ↦ λ (goes_on : p x ≡ false). last_piece-onto_first p x
          (slice_split p xs) some goes_on none
    ] refl

-- a tail has no end in it
pub tail_has_no_end : (xs : List ℕ) → list_any is_line_end (tail xs) ≡ false
unfolding tail
tail_has_no_end xs = last_piece_has_none is_line_end xs

pub tail_alone : (ys : List ℕ) → list_any is_line_end ys ≡ false → tail ys ≡ ys
unfolding tail
tail_alone ys none = ap last_piece (one_piece is_line_end ys none)

-- later bytes take no line away
pub record Grows (old new : List (List ℕ)) : Type 0 where
  pub more : List (List ℕ)
  pub is : new ≡ old ++ more

grows_by_one : (xs : List ℕ) (y : ℕ) → Grows (lines xs) (lines (xs ++ y ∷ []))
grows_by_one xs y =
    elim (is_line_end y) as (λ b. is_line_end y ≡ b → Grows (lines xs) (lines (xs ++ y ∷ []))) [
      | true ↦ λ ends. record {
        more = option_to_list (line_of (tail xs));
        is = lines-end xs y ends;
      }
      | false ↦ λ (goes_on : is_line_end y ≡ false). record {
        more = [];
        is = lines-run xs (y ∷ []) (ap (λ b. b || false) goes_on) ∙ sym (append-nil (lines xs));
      }
    ] refl

pub lines_grow : (xs ys : List ℕ) → Grows (lines xs) (lines (xs ++ ys))
lines_grow xs [] = record { more = []; is = ap lines (append-nil xs) ∙ sym (append-nil (lines xs)) }
lines_grow xs (y ∷ ys) =
    let one = grows_by_one xs y in
    let rest = lines_grow (xs ++ y ∷ []) ys in
    record {
      more = one.more ++ rest.more;
      is =
          ap lines (sym (append_assoc xs (y ∷ []) ys)) ∙ rest.is ∙ ap (λ ls. ls ++ rest.more) one.is
          ∙ append_assoc (lines xs) one.more rest.more;
    }
