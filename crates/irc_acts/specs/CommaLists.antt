-- Lists whose entries are parted by commas (RFC 2812 section 2.3.1).
use Rattle.std.specs.Prelude.{◌≡◌, ◌<◌, ℕ, suc, Bool, not, Option, Some, None, MatchOption, List}
use Rattle.std.specs.Prelude.{[], ◌∷◌, filter, length, nat_eq}
use Rattle.std.specs.Borrow.{Bor}
use Rattle.std.specs.List.{slice_split}
use Rattle.irc_modes.specs.Modes.{is_nil}
use Rattle.irc_acts.specs.Marks.{comma}

-- whether a byte parts two entries
abbrev pub is_comma : ℕ → Bool
is_comma b = nat_eq b comma

-- what stands between the commas of a list, the empty too
abbrev pub pieces : List ℕ → List (List ℕ)
pieces list = slice_split is_comma list

-- of what is left of a list, if something is
abbrev pub pieces_left : Option (List ℕ) → List (List ℕ)
pieces_left None = []
pieces_left (Some list) = pieces list

-- a list that is empty still has one piece
abbrev pub length_left : Option (List ℕ) → ℕ
length_left None = 0
length_left (Some list) = suc (length list)

-- the entries of a comma list, without the empty ones
unfoldable pub entries : List ℕ → List (List ℕ)
entries list = filter (λ entry. not (is_nil entry)) (pieces list)

-- the first entry of a list and the list behind it, which is shorter; none where there is no entry
abbrev pub IsNextEntry : List ℕ → Option (Bor (List ℕ) × Bor (List ℕ)) → Type 0
IsNextEntry list next =
    MatchOption next (entries list ≡ [])
    (λ e. (entries list ≡ e.0.now ∷ entries e.1.now) × (length e.1.now < length list))
