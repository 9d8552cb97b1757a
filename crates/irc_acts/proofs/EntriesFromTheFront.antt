-- The entries of a comma list, read from its front.
use Rattle.std.proofs.Common.{◌≡◌, ◌≢◌, ℕ, ◌+◌, ◌-◌, ◌≤◌, ◌<◌, Bool, true, false, ◌||◌, not, cond}
use Rattle.std.proofs.Common.{zero, suc, List, [], ◌∷◌, ◌++◌, length, take, drop, filter, get_or}
use Rattle.std.proofs.Common.{refl, sym, ◌∙◌, ap, arith, take-append-drop, length-take, length-drop}
use Rattle.std.proofs.Common.{append-nil, eqb}
use Rattle.std.specs.List.{list_any, slice_split, onto_first}
use Rattle.std.proofs.lemmas.Bool.{eqb-true, not-false}
use Rattle.std.proofs.lemmas.List.{drop_more, take_all, take_rest}
use Rattle.irc_line.specs.Bytes.{begins}
use Rattle.irc_modes.specs.Modes.{is_nil}
use Rattle.irc_acts.specs.CommaLists.{is_comma, pieces, entries}

-- a comma in front makes no difference
after_comma : (b : ℕ) (list : List ℕ) → is_comma b ≡ true → entries (b ∷ list) ≡ entries list
unfolding entries
after_comma b list comma =
    ap (λ v. filter (λ entry. not (is_nil entry)) (cond v ([] ∷ slice_split is_comma list)
    (onto_first b (slice_split is_comma list)))) comma

pub one_comma : (list : List ℕ) (i d : ℕ) → i < length list → is_comma (get_or list i d) ≡ true
    → entries (drop i list) ≡ entries (drop (i + 1) list)
one_comma list i d within comma =
    ap entries (drop_more list i d within) ∙ after_comma (get_or list i d) (drop (i + 1) list) comma

pub no_entries : entries [] ≡ []
unfolding entries
no_entries = refl

-- the pieces behind the first comma
behind_comma : List ℕ → List (List ℕ)
behind_comma [] = []
behind_comma (b ∷ list) = slice_split is_comma list

first_piece : (entry rest : List ℕ) → list_any is_comma entry ≡ false
    → begins (λ b. not (is_comma b)) rest ≡ false
    → slice_split is_comma (entry ++ rest) ≡ entry ∷ behind_comma rest
unfolding behind_comma
first_piece [] [] none ends = refl
first_piece [] (b ∷ rest) none ends =
    ap (λ v. cond v ([] ∷ slice_split is_comma rest) (onto_first b (slice_split is_comma rest)))
    (not-false (is_comma b) ends)
first_piece (b ∷ entry) rest none ends =
    elim (is_comma b) as (λ v. (v || list_any is_comma entry) ≡ false
    → cond v ([] ∷ slice_split is_comma (entry ++ rest))
    (onto_first b (slice_split is_comma (entry ++ rest))) ≡ (b ∷ entry) ∷ behind_comma rest) [
      | true ↦ λ (h : true ≡ false). cc h
      | false ↦ λ (h : list_any is_comma entry ≡ false).
          ap (onto_first b) (first_piece entry rest h ends)
    ] none

later_entries : (rest : List ℕ) → begins (λ b. not (is_comma b)) rest ≡ false
    → filter (λ entry. not (is_nil entry)) (behind_comma rest) ≡ entries rest
unfolding entries behind_comma
later_entries [] ends = refl
later_entries (b ∷ rest) ends =
    sym (ap (λ v. filter (λ entry. not (is_nil entry)) (cond v ([] ∷ slice_split is_comma rest)
    (onto_first b (slice_split is_comma rest)))) (not-false (is_comma b) ends))

first_entry : (entry rest : List ℕ) → entry ≢ [] → list_any is_comma entry ≡ false
    → begins (λ b. not (is_comma b)) rest ≡ false → entries (entry ++ rest) ≡ entry ∷ entries rest
unfolding entries
first_entry [] rest some none ends = absurd (some refl)
first_entry (b ∷ entry) rest some none ends =
    ap (filter (λ e. not (is_nil e))) (first_piece (b ∷ entry) rest none ends)
    ∙ ap (λ es. (b ∷ entry) ∷ es) (later_entries rest ends)

-- the entry at the front of a list that does not begin with a comma has some byte
entry_is_some : (behind : List ℕ) (n : ℕ) → begins is_comma behind ≡ false
    → eqb (length behind) 0 ≡ false → begins (λ b. not (is_comma b)) (drop n behind) ≡ false → 0 < n
entry_is_some [] n starts some ends = cc some
entry_is_some (b ∷ behind) zero starts some ends = absurd (never (is_comma b) starts ends)
  where
    never : (v : Bool) → v ≡ false → not v ≡ false → ⊥
    never true h k = cc h
    never false h k = cc k
entry_is_some (b ∷ behind) (suc n) starts some ends = omega arith

taken_some : (behind : List ℕ) (n : ℕ) → eqb (length behind) 0 ≡ false → 0 < n → take n behind ≢ []
taken_some [] n some counts = cc some
taken_some (b ∷ behind) zero some counts = absurd (omega arith)
taken_some (b ∷ behind) (suc n) some counts = λ none. cc none

rest_length : (list behind : List ℕ) (n : ℕ) → length behind ≤ length list → eqb (length behind) 0
    ≡ false → 0 < n → length (take (length behind - n) (drop n behind)) < length list
rest_length list [] n shorter some counts = cc some
rest_length list (b ∷ behind) n shorter some counts =
    omega (
      arith,
      length-take {A = ℕ} (length (b ∷ behind) - n) (drop n (b ∷ behind)),
      length-drop {A = ℕ} n (b ∷ behind),
    )

-- the entry that a list begins with behind its commas, and the list behind the entry
pub entry_taken : (list behind : List ℕ) (n : ℕ) → entries behind ≡ entries list
    → begins is_comma behind ≡ false → length behind ≤ length list → eqb (length behind) 0 ≡ false
    → list_any is_comma (take n behind) ≡ false → begins (λ b. not (is_comma b)) (drop n behind)
    ≡ false → (entries list ≡ take n behind ∷ entries (take (length behind - n) (drop n behind)))
    × (length (take (length behind - n) (drop n behind)) < length list)
entry_taken list behind n same starts shorter some none ends =
    let counts = entry_is_some behind n starts some ends in
    let rest : take (length behind - n) (drop n behind) ≡ drop n behind = take_rest behind n in
    let whole = sym same ∙ ap entries (sym (take-append-drop n behind))
    ∙ first_entry (take n behind) (drop n behind) (taken_some behind n some counts) none ends in (
      whole ∙ ap (λ r. take n behind ∷ entries r) (sym rest),
      rest_length list behind n shorter some counts,
    )

pub none_behind : (list behind : List ℕ) → entries behind ≡ entries list
    → eqb (length behind) 0 ≡ true → entries list ≡ []
none_behind list [] same none = sym same ∙ no_entries
none_behind list (b ∷ behind) same none =
    absurd (omega (arith, eqb-true (length (b ∷ behind)) 0 none))

-- ---- pieces, the empty too

-- where no comma is in a list it is the one piece
pub one_piece : (list : List ℕ) (n : ℕ) → n ≡ length list → list_any is_comma (take n list) ≡ false
    → pieces list ≡ list ∷ []
unfolding behind_comma
one_piece list n all none =
    let whole : take n list ≡ list = take_all n list (omega (arith, all)) in
    ap pieces (sym (append-nil list))
    ∙ first_piece list [] (ap (list_any is_comma) (sym whole) ∙ none) refl

-- else there is a piece in front of the comma, and others behind it
pub more_pieces : (list : List ℕ) (n : ℕ) → n ≤ length list → n ≢ length list
    → list_any is_comma (take n list) ≡ false → begins (λ b. not (is_comma b)) (drop n list) ≡ false
    → pieces list ≡ take n list ∷ pieces (take (length list - (n + 1)) (drop (n + 1) list))
unfolding behind_comma
more_pieces list n fits more none ends =
    let within : n < length list = omega (arith, more) in
    let comma_first : drop n list ≡ get_or list n 0 ∷ drop (n + 1) list =
    drop_more list n 0 within in
    ap pieces (sym (take-append-drop n list)) ∙ first_piece (take n list) (drop n list) none ends
    ∙ ap (λ rest. take n list ∷ behind_comma rest) comma_first
    ∙ ap (λ rest. take n list ∷ pieces rest) (sym (take_rest list (n + 1)))
