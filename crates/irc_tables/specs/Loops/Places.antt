-- Where the search finds a fold among rows in folded order, or where a row of that fold would
-- stand.
use Rattle.std.specs.Prelude.{◌≡◌, ℕ, ◌<◌, ◌≤◌, Bool, List, take, drop, length, slice_index_or}
use Rattle.std.specs.Prelude.{IsTrue, Result, Ok, Err}
use Rattle.std.specs.List.{list_all}
use Rattle.std.specs.Ordering.{is_lt}
use Rattle.irc_names.specs.Tables.{fold_cmp}

-- whether a row stands before a fold, or after it
abbrev pub is_before : {X V : Type 0} → (X → List ℕ × V) → List ℕ → X → Bool
is_before entry fold row = is_lt (fold_cmp (entry row).0 fold)

abbrev pub is_after : {X V : Type 0} → (X → List ℕ × V) → List ℕ → X → Bool
is_after entry fold row = is_lt (fold_cmp fold (entry row).0)

-- the row at this place has the fold
pub record StandsAt {X V : Type 0} (entry : X → List ℕ × V) (rows : List X) (fold : List ℕ)
    (place : ℕ) : Type 0 where
  pub within : place < length rows
  pub named : (d : X) → (entry (slice_index_or rows place d)).0 ≡ fold

-- no row has the fold, and one that had it would stand at this place
pub record BelongsAt {X V : Type 0} (entry : X → List ℕ × V) (rows : List X) (fold : List ℕ)
    (place : ℕ) : Type 0 where
  pub within : place ≤ length rows
  pub before : IsTrue (list_all (is_before entry fold) (take place rows))
  pub after : IsTrue (list_all (is_after entry fold) (drop place rows))

-- where a fold stands among rows, or where it would
abbrev pub IsPlaceOf : {X V : Type 0} → (X → List ℕ × V) → List X → List ℕ → Result ℕ ℕ → Type 0
IsPlaceOf entry rows fold (Ok place) = StandsAt entry rows fold place
IsPlaceOf entry rows fold (Err place) = BelongsAt entry rows fold place
