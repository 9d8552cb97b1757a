-- What a wire in memory tells of a connection: what it gave and took, whether it was closed, and
-- how it stands.
use Rattle.std.specs.Prelude.{◌≡◌, ℕ, ◌-◌, ◌≤◌, vec_capacity, ⊤, Bool, true, false, nat_eq, IfSome}
use Rattle.std.specs.Prelude.{Option, Some, None, Result, List, [], ◌∷◌, ◌++◌, length}
use Rattle.std.specs.Prelude.{if◌then◌else◌}
use Rattle.std.specs.List.{list_any}
use Rattle.std.specs.Option.{option_map}
use Rattle.std.specs.Ordering.{nat_cmp}
use Rattle.std.specs.BTreeMap.{BTreeMap, get}
use Rattle.irc_outbox.specs.declared.memory.Far.{Far}
use Rattle.irc_outbox.specs.declared.wire.Got.{Got}
use Rattle.irc_outbox.specs.declared.wire.IoFault.{IoFault}
use Rattle.irc_outbox.specs.Calls.{Call, reads, taken, written, is_close_of}

-- The bytes that were read from it and those that were written to it; whether it was closed,
-- whether its number was reported, whether it has ended, whether the next read and the next write
-- fail, and how many bytes it takes.
pub record WireTold : Type 0 where
  pub taken : List ℕ
  pub written : List ℕ
  pub closed : Bool
  pub known : Bool
  pub ended : Bool
  pub read_fails : Bool
  pub write_fails : Bool
  pub room : ℕ

abbrev pub told_by_far : Far → WireTold
told_by_far far = record {
  taken = far.taken.items;
  written = far.written.items;
  closed = far.closed;
  known = far.known;
  ended = far.ended;
  read_fails = far.read_fails;
  write_fails = far.write_fails;
  room = far.room;
}

abbrev pub fresh_told : WireTold
fresh_told = record {
  taken = [];
  written = [];
  closed = false;
  known = false;
  ended = false;
  read_fails = false;
  write_fails = false;
  room = 0;
}

abbrev pub same_told : WireTold → WireTold
same_told t = t

abbrev pub with_taken : List ℕ → WireTold → WireTold
with_taken bytes t = record t { taken = t.taken ++ bytes }

-- so many bytes were written, and there is so much less room
abbrev pub with_written : List ℕ → WireTold → WireTold
with_written bytes t = record t { written = t.written ++ bytes; room = t.room - length bytes }

abbrev pub with_close : WireTold → WireTold
with_close t = record t { closed = true }

abbrev pub far_at : BTreeMap ℕ Far → ℕ → Option Far
far_at fars conn = get nat_cmp fars conn

-- what is told of a connection, if a step names it
abbrev pub told_at : BTreeMap ℕ Far → ℕ → Option WireTold
told_at fars conn = option_map told_by_far (far_at fars conn)

-- nothing is told of a connection that no step names
abbrev pub told_or_none : Option WireTold → WireTold
told_or_none None = fresh_told
told_or_none (Some t) = t

-- whether it has ended
abbrev pub ended_at : BTreeMap ℕ Far → ℕ → Bool
ended_at fars conn = (told_or_none (told_at fars conn)).ended

-- what is told of a connection is what the account says of it
pub record IsTold (conn : ℕ) (t : WireTold) (calls : List Call) : Type 0 where
  pub taken_is : t.taken ≡ taken conn calls
  pub written_is : t.written ≡ written conn calls
  pub closed_is : t.closed ≡ list_any (is_close_of conn) calls

abbrev pub IsToldAt : ℕ → Option Far → List Call → Type 0
IsToldAt conn None calls = ⊤
IsToldAt conn (Some far) calls = IsTold conn (told_by_far far) calls

-- so of each connection that a step names
abbrev pub AllWiresTold : BTreeMap ℕ Far → List Call → Type 0
AllWiresTold fars calls = (conn : ℕ) → IsToldAt conn (far_at fars conn) calls

-- no connection was reported, and none has given or taken anything
abbrev pub AllFresh : BTreeMap ℕ Far → Type 0
AllFresh fars = (conn : ℕ) → IfSome (told_at fars conn) (λ t. t ≡ fresh_told)

-- the memory for what a connection gives and takes grows, or stays
pub record KeepsMemory (old new : Far) : Type 0 where
  pub taken : vec_capacity old.taken ≤ vec_capacity new.taken
  pub written : vec_capacity old.written ≤ vec_capacity new.written

-- what is told of one connection has changed so, if a step names it
pub data Changes (conn : ℕ) (change : WireTold → WireTold) (old new : BTreeMap ℕ Far) : Type 0 where
  at_far : (far now : Far) → far_at old conn ≡ Some far
      → ((q : ℕ) → far_at new q ≡ (if nat_eq conn q then Some now else far_at old q))
      → told_by_far now ≡ change (told_by_far far) → KeepsMemory far now
      → Changes conn change old new
  no_far : far_at old conn ≡ None → ((q : ℕ) → far_at new q ≡ far_at old q)
      → Changes conn change old new

-- a connection is there from now on
abbrev pub IsFarAdded : BTreeMap ℕ Far → ℕ → Far → BTreeMap ℕ Far → Type 0
IsFarAdded old conn far new =
    (q : ℕ) → far_at new q ≡ (if nat_eq conn q then Some far else far_at old q)

-- whatever was told still is
abbrev pub StillTold : BTreeMap ℕ Far → BTreeMap ℕ Far → Type 0
StillTold old new = (calls : List Call) → AllWiresTold old calls → AllWiresTold new calls

-- a connection has given these bytes to a read
abbrev pub Gives : ℕ → List ℕ → BTreeMap ℕ Far → BTreeMap ℕ Far → Type 0
Gives conn bytes old new =
    (calls : List Call) (room : ℕ) (answer : Result Got IoFault) → AllWiresTold old calls
    → AllWiresTold new (calls ++ reads conn room answer bytes ∷ [])
