-- The memory for what connections give and take: that for all steps is taken before the first is
-- served.
use Rattle.std.specs.Prelude.{◌≡◌, ℕ, ◌+◌, ◌≤◌, nat_eq, Option, Some, None, if◌then◌else◌}
use Rattle.std.specs.Prelude.{vec_capacity, List, [], ◌∷◌, ◌++◌, length}
use Rattle.std.specs.List.{sum_by}
use Rattle.std.specs.BTreeMap.{BTreeMap}
use Rattle.irc_outbox.specs.declared.memory.Far.{Far}
use Rattle.irc_outbox.specs.declared.memory.WireStep.{WireStep}
use Rattle.irc_outbox.specs.declared.memory.WireStep.TheVariants as step
use Rattle.irc_outbox.specs.Memory.{far_at}

-- how many bytes a step gives of a connection, and how many it lets be written to it
abbrev pub gives_of : ℕ → WireStep → ℕ
gives_of q (step.Bytes conn bytes) = if nat_eq conn q then length bytes.items else 0
gives_of q step = 0

abbrev pub grants_to : ℕ → WireStep → ℕ
grants_to q (step.Room conn room) = if nat_eq conn q then room else 0
grants_to q step = 0

-- and how many some steps do
abbrev pub given_of : ℕ → List WireStep → ℕ
given_of q steps = sum_by (gives_of q) steps

abbrev pub granted_to : ℕ → List WireStep → ℕ
granted_to q steps = sum_by (grants_to q) steps

-- how many bytes of the step at hand are left to be read of a connection
abbrev pub at_hand : ℕ → Option ℕ → List ℕ → ℕ
at_hand q None bytes = 0
at_hand q (Some conn) bytes = if nat_eq conn q then length bytes else 0

-- how many bytes a connection has given and taken, and for how many there is memory
abbrev pub count_in : Option Far → ℕ
count_in None = 0
count_in (Some far) = length far.taken.items

abbrev pub memory_in : Option Far → ℕ
memory_in None = 0
memory_in (Some far) = vec_capacity far.taken

abbrev pub count_out : Option Far → ℕ
count_out None = 0
count_out (Some far) = length far.written.items

abbrev pub memory_out : Option Far → ℕ
memory_out None = 0
memory_out (Some far) = vec_capacity far.written

-- how many bytes more it takes
abbrev pub room_of : Option Far → ℕ
room_of None = 0
room_of (Some far) = far.room

-- There is memory for all that a connection may yet give and take: for what is at hand, for its
-- room, and for what the steps give and let be written that are left.
abbrev pub IsAmpleAt : ℕ → Option Far → Option ℕ → List ℕ → List WireStep → Type 0
IsAmpleAt q far hand bytes left =
    (count_in far + at_hand q hand bytes + given_of q left ≤ memory_in far)
    × (count_out far + room_of far + granted_to q left ≤ memory_out far)

-- so of each connection
abbrev pub IsAmple : BTreeMap ℕ Far → Option ℕ → List ℕ → List WireStep → Type 0
IsAmple fars hand bytes left = (q : ℕ) → IsAmpleAt q (far_at fars q) hand bytes left

-- There is memory for so many bytes more of a connection, and for all that it takes.
abbrev pub HasMemoryFor : ℕ → ℕ → BTreeMap ℕ Far → Type 0
HasMemoryFor count conn fars = count_in (far_at fars conn) + count ≤ memory_in (far_at fars conn)

abbrev pub HasMemoryOut : ℕ → BTreeMap ℕ Far → Type 0
HasMemoryOut conn fars =
    count_out (far_at fars conn) + room_of (far_at fars conn) ≤ memory_out (far_at fars conn)

-- how many bytes are planned for
abbrev pub planned_in : Option Far → ℕ
planned_in None = 0
planned_in (Some far) = far.inward

abbrev pub planned_out : Option Far → ℕ
planned_out None = 0
planned_out (Some far) = far.outward

-- what these steps give and let be written is, and there is memory for all that is
pub record IsPlannedAt (q : ℕ) (steps : List WireStep) (far : Option Far) : Type 0 where
  pub given : given_of q steps ≤ planned_in far
  pub inward : planned_in far ≤ memory_in far
  pub granted : granted_to q steps ≤ planned_out far
  pub outward : planned_out far ≤ memory_out far

abbrev pub ArePlanned : List WireStep → BTreeMap ℕ Far → Type 0
ArePlanned steps fars = (q : ℕ) → IsPlannedAt q steps (far_at fars q)

-- whatever was planned for still is
abbrev pub StayPlanned : BTreeMap ℕ Far → BTreeMap ℕ Far → Type 0
StayPlanned old new = (steps : List WireStep) → ArePlanned steps old → ArePlanned steps new

-- a step more is planned for, of a connection
pub record Plans (step : WireStep) (conn : ℕ) (old new : Far) : Type 0 where
  pub inward : new.inward ≡ old.inward + gives_of conn step
  pub outward : new.outward ≡ old.outward + grants_to conn step
  pub memory_in : old.inward ≤ vec_capacity old.taken → new.inward ≤ vec_capacity new.taken
  pub memory_out : old.outward ≤ vec_capacity old.written → new.outward ≤ vec_capacity new.written

pub record PlansAt (step : WireStep) (old new : BTreeMap ℕ Far) : Type 0 where
  pub plans : (steps : List WireStep) → ArePlanned steps old → ArePlanned (steps ++ step ∷ []) new
