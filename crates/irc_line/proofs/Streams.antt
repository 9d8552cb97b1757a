-- How a framer's value goes on with more bytes of its stream.
use Rattle.std.proofs.Common.{◌≡◌, ℕ, ◌≤◌, ◌<◌, Bool, true, false, ◌||◌, ◌&&◌, not, cond, Some}
use Rattle.std.proofs.Common.{None, List, [], ◌∷◌, ◌++◌, length, take, zero, suc, refl, sym, ◌∙◌}
use Rattle.std.proofs.Common.{ap, subst, append_assoc, append-nil, arith, length-append}
use Rattle.std.proofs.Common.{length-take}
use Rattle.std.specs.Prelude.{option_to_list}
use Rattle.std.specs.List.{list_any}
use Rattle.std.proofs.lemmas.List.{take-append-le, nil_from_length}
use Rattle.std.proofs.lemmas.List.Folds.{list_any-append}
use Rattle.std.proofs.lemmas.Bool.{or_parts}
use Rattle.irc_line.specs.Limits.{max_line}
use Rattle.irc_line.specs.Bytes.{is_line_end, is_nul, has_nul, cut}
use Rattle.irc_line.specs.Lines.{is_empty, line_of, nothing_begun, tail, lines, Begun, begun_of}
use Rattle.irc_line.specs.Lines.{HasTaken, stream_for, Takes, EndsNoLine, IsLine}
use Rattle.irc_line.specs.Loops.Framing.{line_begun, go_on, IsReady}
use Rattle.irc_line.specs.Lemmas.CutLaws.{cut-cut_append}
use Rattle.irc_line.proofs.Pieces.{tail-run, lines-run, tail-end, lines-end, tail_has_no_end}
use Rattle.irc_line.proofs.Pieces.{tail_alone, Grows, lines_grow}

pub is_empty-cut : (xs : List ℕ) → is_empty (cut xs) ≡ is_empty xs
unfolding cut
is_empty-cut [] = refl
is_empty-cut (x ∷ xs) = refl

pub list_any-take : (p : ℕ → Bool) (n : ℕ) (xs : List ℕ) → list_any p xs ≡ false
    → list_any p (take n xs) ≡ false
list_any-take p zero xs none = refl
list_any-take p (suc n) [] none = refl
list_any-take p (suc n) (x ∷ xs) none =
    let both = or_parts (p x) (list_any p xs) none in
    ap (λ b. b || list_any p (take n xs)) (both.0) ∙ list_any-take p n xs (both.1)

pub list_any-cut : (p : ℕ → Bool) (xs : List ℕ) → list_any p xs ≡ false
    → list_any p (cut xs) ≡ false
unfolding cut
list_any-cut p xs none = list_any-take p max_line xs none

-- an element that was cut off stands behind the place of the cut
passes_behind : (p : ℕ → Bool) (n : ℕ) (xs : List ℕ) → list_any p xs ≡ true
    → list_any p (take n xs) ≡ false → n ≤ length xs
passes_behind p zero xs some none = omega arith
passes_behind p (suc n) [] some none = cc some
passes_behind p (suc n) (x ∷ xs) some none =
    let first = or_parts (p x) (list_any p (take n xs)) none in
    let behind : n ≤ length xs =
    passes_behind p n xs (sym (ap (λ b. b || list_any p xs) (first.0)) ∙ some) (first.1) in
    omega arith

cut_full : (xs ys : List ℕ) → has_nul xs ≡ true → has_nul (cut xs) ≡ false → cut (xs ++ ys) ≡ cut xs
unfolding cut
cut_full xs ys some none =
    take-append-le max_line xs ys (passes_behind is_nul max_line xs some none)

-- The value of a framer that has taken a stream.

abbrev pub begun : List ℕ → Bool → Begun
begun kept nul = record { kept = kept; nul_seen = nul }

same_begun : (kept kept' : List ℕ) (nul nul' : Bool) → kept ≡ kept' → nul ≡ nul'
    → begun kept nul ≡ begun kept' nul'
same_begun kept kept' nul nul' same_kept same_nul =
    ap (λ k. begun k nul) same_kept ∙ ap (begun kept') same_nul

begun_of-append : (xs ys : List ℕ) → begun_of (xs ++ ys) ≡ go_on (begun_of xs) ys
begun_of-append xs ys =
    same_begun _ _ _ _ (sym (cut-cut_append xs ys)) (list_any-append is_nul xs ys)

line_of-begun : (piece : List ℕ) → line_begun (begun_of piece) ≡ line_of piece
line_of-begun piece =
    ap (λ b. cond (b || has_nul piece) None (Some (cut piece))) (is_empty-cut piece)

pub takes_append : (a b c : Begun) (xs ys : List ℕ) (found later : List (List ℕ))
    → Takes a xs found b → Takes b ys later c → Takes a (xs ++ ys) (found ++ later) c
takes_append a b c xs ys found later first second = record {
  framer = λ stream taken. second.framer (stream ++ xs) (first.framer stream taken)
      ∙ ap (λ s. begun_of (tail s)) (append_assoc stream xs ys);
  lines_found = λ stream taken.
      ap lines (sym (append_assoc stream xs ys))
      ∙ second.lines_found (stream ++ xs) (first.framer stream taken)
      ∙ ap (λ ls. ls ++ later) (first.lines_found stream taken)
      ∙ append_assoc (lines stream) found later;
}

pub takes_run : (framer : Begun) (ys : List ℕ) → list_any is_line_end ys ≡ false
    → Takes framer ys [] (go_on framer ys)
takes_run framer ys none = record {
  framer = λ stream taken. ap (λ f. go_on f ys) taken ∙ sym (begun_of-append (tail stream) ys)
      ∙ ap begun_of (sym (tail-run stream ys none));
  lines_found = λ stream taken. lines-run stream ys none ∙ sym (append-nil (lines stream));
}

pub takes_end : (framer : Begun) (y : ℕ) → is_line_end y ≡ true
    → Takes framer (y ∷ []) (option_to_list (line_begun framer)) nothing_begun
unfolding cut
takes_end framer y ends = record {
  framer = λ stream taken. ap begun_of (sym (tail-end stream y ends));
  lines_found = λ stream taken. lines-end stream y ends
      ∙ ap (λ l. lines stream ++ option_to_list l) (sym (line_of-begun (tail stream))
      ∙ ap line_begun (sym taken));
}

-- Each framer is that of some stream.

cut-cut : (xs : List ℕ) → cut (cut xs ++ []) ≡ cut xs
cut-cut xs = cut-cut_append xs [] ∙ ap cut (append-nil xs)

kept_again : (xs : List ℕ) (seen seen_kept : Bool)
    → has_nul xs ≡ seen → has_nul (cut xs) ≡ seen_kept
    → begun_of (cut xs ++ cond (seen && not seen_kept) (0 ∷ []) []) ≡ begun (cut xs) seen
kept_again xs true true some kept_some =
    same_begun _ _ _ _ (cut-cut xs) (ap has_nul (append-nil (cut xs)) ∙ kept_some)
kept_again xs true false some none =
    same_begun _ _ _ _ (cut-cut_append xs (0 ∷ []) ∙ cut_full xs (0 ∷ []) some none)
    (list_any-append is_nul (cut xs) (0 ∷ []) ∙ ap (λ b. b || true) none)
kept_again xs false kept none is_kept =
    same_begun _ _ _ _ (cut-cut xs) (ap has_nul (append-nil (cut xs)) ∙ list_any-cut is_nul xs none)

no_end_behind : (b : Bool) → list_any is_line_end (cond b (0 ∷ []) []) ≡ false
no_end_behind true = refl
no_end_behind false = refl

pub stream_for_has_no_end : (xs : List ℕ) → list_any is_line_end xs ≡ false
    → list_any is_line_end (stream_for (begun_of xs)) ≡ false
stream_for_has_no_end xs none =
    let behind = has_nul xs && not (has_nul (cut xs)) in
    list_any-append is_line_end (cut xs) (cond behind (0 ∷ []) [])
    ∙ ap (λ b. b || list_any is_line_end (cond behind (0 ∷ []) []))
    (list_any-cut is_line_end xs none)
    ∙ no_end_behind behind

begun_again : (xs : List ℕ) → list_any is_line_end xs ≡ false
    → HasTaken (begun_of xs) (stream_for (begun_of xs))
begun_again xs none =
    sym (kept_again xs (has_nul xs) (has_nul (cut xs)) refl refl)
    ∙ ap begun_of (sym (tail_alone (stream_for (begun_of xs)) (stream_for_has_no_end xs none)))

pub has_taken_some : (framer : Begun) (stream : List ℕ) → HasTaken framer stream
    → HasTaken framer (stream_for framer)
has_taken_some framer stream taken =
    subst (λ (f : Begun). HasTaken f (stream_for f)) (sym taken)
    (begun_again (tail stream) (tail_has_no_end stream))

-- What is known of each framer, and of the line that it gives.

pub new_has_taken : HasTaken nothing_begun []
unfolding cut
new_has_taken = ap begun_of (sym (tail_alone [] refl))

-- a framer after more bytes is again that of some stream
pub still_has_taken : (old new : Begun) (bytes : List ℕ) (found : List (List ℕ))
    → HasTaken old (stream_for old) → Takes old bytes found new → HasTaken new (stream_for new)
still_has_taken old new bytes found taken takes =
    has_taken_some new (stream_for old ++ bytes) (takes.framer (stream_for old) taken)

length-take_bound : (n : ℕ) (xs : List ℕ) → length (take n xs) ≤ n
length-take_bound n xs = omega (arith, length-take {A = ℕ} n xs)

pub length-cut : (xs : List ℕ) → length (cut xs) ≤ max_line
unfolding cut
length-cut xs = length-take_bound max_line xs

record IsGiven (kept : List ℕ) (nul_seen : Bool) (line : List ℕ) : Type 0 where
  some_kept : is_empty kept ≡ false
  no_nul : nul_seen ≡ false
  is : kept ≡ line

is_given : (kept : List ℕ) (nul_seen : Bool) (line : List ℕ)
    → line_begun (begun kept nul_seen) ≡ Some line → IsGiven kept nul_seen line
is_given [] nul_seen line given = cc given
is_given (b ∷ kept) true line given = cc given
is_given (b ∷ kept) false line given = record { some_kept = refl; no_nul = refl; is = cc given }

some_length : (xs : List ℕ) → is_empty xs ≡ false → 0 < length xs
some_length [] some = cc some
some_length (x ∷ xs) some = omega arith

cut_is_line : (piece : List ℕ) → list_any is_line_end piece ≡ false → is_empty (cut piece) ≡ false
    → has_nul piece ≡ false → IsLine (cut piece)
cut_is_line piece no_end some no_nul = record {
  some_byte = some_length (cut piece) some;
  fits = length-cut piece;
  no_nul = list_any-cut is_nul piece no_nul;
  no_end = list_any-cut is_line_end piece no_end;
}

pub line_is_line : (framer : Begun) (line : List ℕ) → HasTaken framer (stream_for framer)
    → line_begun framer ≡ Some line → IsLine line
line_is_line framer line taken given =
    let piece = tail (stream_for framer) in
    let parts = is_given (cut piece) (has_nul piece) line (ap line_begun (sym taken) ∙ given) in
    subst IsLine (parts.is)
    (cut_is_line piece (tail_has_no_end (stream_for framer)) (parts.some_kept) (parts.no_nul))

-- Bytes that end no line.

pub ends_no_line : (old new : Begun) (bytes : List ℕ) → Takes old bytes [] new
    → EndsNoLine old bytes
ends_no_line old new bytes takes =
    λ stream taken. takes.lines_found stream taken ∙ append-nil (lines stream)

grown_back : (old mid new : List (List ℕ)) → Grows old mid → Grows mid new → new ≡ old → mid ≡ old
grown_back old mid new first second back =
    let none : first.more ≡ [] = nil_from_length (first.more) (omega (
      arith,
      length-append {A = List ℕ} old (first.more),
      length-append {A = List ℕ} mid (second.more),
      ap length (first.is),
      ap length (second.is),
      ap length back,
    )) in
    first.is ∙ ap (λ more. old ++ more) none ∙ append-nil old

-- nor do fewer of them
pub fewer_end_no_line : (framer : Begun) (xs ys : List ℕ) → EndsNoLine framer (xs ++ ys)
    → EndsNoLine framer xs
fewer_end_no_line framer xs ys none = λ stream taken.
    grown_back (lines stream) (lines (stream ++ xs)) (lines (stream ++ (xs ++ ys)))
    (lines_grow stream xs)
    (let more = lines_grow (stream ++ xs) ys in
    record { more = more.more; is = ap lines (sym (append_assoc stream xs ys)) ∙ more.is })
    (none stream taken)

pub kept_fits : (framer : Begun) (stream : List ℕ) → HasTaken framer stream
    → length framer.kept ≤ max_line
kept_fits framer stream taken =
    let fits = length-cut (tail stream) in
    subst (λ (f : Begun). length f.kept ≤ max_line) (sym taken) fits

-- Each of the code's steps, by the fields that it leaves.

pub begins_anew : (kept : List ℕ) → kept ≡ [] → HasTaken (begun kept false) []
begins_anew kept none = ap (λ k. begun k false) none ∙ new_has_taken

pub begins_anew_real : (kept : List ℕ) → kept ≡ []
    → HasTaken (begun kept false) (stream_for (begun kept false))
begins_anew_real kept none = has_taken_some (begun kept false) [] (begins_anew kept none)

pub goes_on_real : (framer : Begun) (ys kept : List ℕ) (seen : Bool)
    → HasTaken framer (stream_for framer) → list_any is_line_end ys ≡ false
    → kept ≡ cut (framer.kept ++ ys) → seen ≡ (framer.nul_seen || has_nul ys)
    → HasTaken (begun kept seen) (stream_for (begun kept seen))
goes_on_real framer ys kept seen taken none same_kept same_seen =
    subst (λ (f : Begun). HasTaken f (stream_for f))
    (sym (same_begun kept _ seen _ same_kept same_seen))
    (still_has_taken framer (go_on framer ys) ys [] taken (takes_run framer ys none))

-- the line that was kept is given, and no byte of it is left
pub nothing_left : (framer : Begun) (left : List ℕ) → IsReady framer → left ≡ []
    → begun left framer.nul_seen ≡ nothing_begun
nothing_left framer left ready none = same_begun left [] framer.nul_seen false none
    (is_given framer.kept framer.nul_seen framer.kept ready).no_nul

pub nothing_left_real : (framer : Begun) (left : List ℕ) → IsReady framer → left ≡ []
    → HasTaken (begun left framer.nul_seen) (stream_for (begun left framer.nul_seen))
nothing_left_real framer left ready none =
    subst (λ (f : Begun). HasTaken f (stream_for f)) (sym (nothing_left framer left ready none))
    (has_taken_some nothing_begun [] new_has_taken)
