-- What has been of a network: what was given to it, and what its clients have received.
use Rattle.std.specs.Prelude.{◌≡◌, ℕ, Result, Ok, Err, List, [], ◌∷◌, ◌++◌}
use Rattle.std.specs.List.{slice_get, slice_set}
use Rattle.std.specs.Option.{option_map_or}
use Rattle.irc_world.specs.Stepping.{Item}

-- what was given, in turn, and what each client has received, whole lines
pub record Past : Type 0 where
  pub items : List Item
  pub received : List (List (List ℕ))

-- nothing was given yet, and there was no client
abbrev pub no_past : Past
no_past = record { items = []; received = [] }

-- an item more was given
abbrev pub with_item : Item → Past → Past
with_item item past = record past { items = past.items ++ item ∷ [] }

-- a client more is there, which has received nothing
abbrev pub with_newcomer : Past → Past
with_newcomer past = record past { received = past.received ++ [] ∷ [] }

abbrev pub line_behind : ℕ → List ℕ → Past → List (List ℕ) → Past
line_behind earlier text past lines =
    record past { received = slice_set past.received earlier (lines ++ text ∷ []) }

-- a line more was received, behind all that its client had, where so many clients are earlier
abbrev pub with_line : ℕ → List ℕ → Past → Past
with_line earlier text past =
    option_map_or (line_behind earlier text past) (slice_get past.received earlier) past

-- it has become another, or memory ran out and it is as it was
abbrev pub Becomes : {A E : Type 0} → Result A E → (Past → Past) → Past → Past → Type 0
Becomes (Ok _) change old new = new ≡ change old
Becomes (Err _) change old new = new ≡ old
