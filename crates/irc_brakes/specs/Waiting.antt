-- Servers that wait for one another: what one of them writes is not read because of what waits,
-- where it would be read, for a third.
use Rattle.std.specs.Prelude.{◌≡◌, ◌≢◌, Bool, true, false, List, [], ◌∷◌}
use Rattle.irc_relay.specs.Links.{Name, same, Link, AreLinked}
use Rattle.irc_relay.specs.Distances.{IsAmong}
use Rattle.irc_brakes.specs.Reading.{is_read_beside}

-- one direction of a link: what its writer writes, its reader reads
pub record Direction : Type 0 where
  pub writer : Name
  pub reader : Name

-- it is a direction of one of these links
abbrev pub IsOfLinks : List Link → Direction → Type 0
IsOfLinks links one = AreLinked links one.writer one.reader

-- Below, full says of each server for which others too much waits there: full m are the neighbours
-- of m that are slow to take what m has for them.

-- too much waits at its writer for its reader
abbrev pub IsFull : (Name → List Name) → Direction → Type 0
IsFull full one = IsAmong (full one.writer) one.reader

-- too much waits for linked servers alone
abbrev pub OnlyLinksAreFull : List Link → (Name → List Name) → Type 0
OnlyLinksAreFull links full = (s t : Name) → IsAmong (full s) t → AreLinked links s t

-- its reader reads it
abbrev pub is_read : (Name → List Name) → Direction → Bool
is_read full one = is_read_beside same (full one.reader) one.writer

-- One direction waits for another: what a writes is not read at m because too much waits there for
-- c, another than a. The one is from a to m, the other from m to c; here is m, and onward says that
-- c is not a.
pub record WaitsFor (links : List Link) (full : Name → List Name) (one other : Direction) : Type 0
  where
    pub linked : IsOfLinks links one
    pub linked_on : IsOfLinks links other
    pub here : one.reader ≡ other.writer
    pub onward : other.reader ≢ one.writer
    pub too_much : IsFull full other

abbrev pub WaitsForNone : List Link → (Name → List Name) → Direction → Type 0
WaitsForNone links full one = (other : Direction) → WaitsFor links full one other → ⊥

-- a chain of waits, as many as these are: first waits for the first of these, each of these for the
-- one behind it, and the last of these is last; with none, first is last
abbrev pub IsChain : List Link → (Name → List Name) → Direction → List Direction → Direction
    → Type 0
IsChain links full first [] last = first ≡ last
IsChain links full first (next ∷ chain) last =
    WaitsFor links full first next × IsChain links full next chain last

-- a direction is read, and waits for none, or it is not, and waits for some
pub data ReadsOrWaits (links : List Link) (full : Name → List Name) (one : Direction) : Type 0 where
  reads : is_read full one ≡ true → WaitsForNone links full one → ReadsOrWaits links full one
  waits : is_read full one ≡ false → (other : Direction) → WaitsFor links full one other
      → ReadsOrWaits links full one

-- there is a chain of waits from one direction to a last one, which is read; and if one is full, so
-- is the last
pub record WaitsForReader (links : List Link) (full : Name → List Name) (one : Direction) : Type 0
  where
    pub last : Direction
    pub chain : List Direction
    pub is_chain : IsChain links full one chain last
    pub of_links : IsOfLinks links last
    pub last_is_read : is_read full last ≡ true
    pub last_is_full : IsFull full one → IsFull full last

-- some direction is full, and is read
pub record SomeFullIsRead (links : List Link) (full : Name → List Name) : Type 0 where
  pub some : Direction
  pub of_links : IsOfLinks links some
  pub some_is_full : IsFull full some
  pub some_is_read : is_read full some ≡ true
