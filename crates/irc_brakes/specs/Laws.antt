-- The laws of waiting. Each is the contract of a public function of this crate.
use Rattle.std.specs.Prelude.{◌≡◌, ◌<◌, suc, List, [], length}
use Rattle.irc_relay.specs.Links.{Name, Link, IsForest, distance}
use Rattle.irc_relay.specs.Distances.{EndsAreAmong, size_of_part}
use Rattle.irc_brakes.specs.Waiting.{Direction, IsOfLinks, IsFull, OnlyLinksAreFull, IsChain}
use Rattle.irc_brakes.specs.Waiting.{ReadsOrWaits, WaitsForReader, SomeFullIsRead}

-- what is read waits for nothing, and what is not read for something; whatever the links are
abbrev pub EachReadsOrWaits : Type 0
EachReadsOrWaits = (links : List Link) (full : Name → List Name) (one : Direction)
    → OnlyLinksAreFull links full → IsOfLinks links one → ReadsOrWaits links full one

-- each wait goes one link further away
abbrev pub WaitsGoAway : Type 0
WaitsGoAway =
    (links : List Link) (full : Name → List Name) (one : Direction) (chain : List Direction)
    (last : Direction) → IsForest links → IsOfLinks links one → IsChain links full one chain last
    → distance links one.writer last.reader ≡ suc (length chain)

-- nothing waits for itself, by however many waits
abbrev pub NoWaitRound : Type 0
NoWaitRound =
    (links : List Link) (full : Name → List Name) (one : Direction) (chain : List Direction)
    → IsForest links → IsChain links full one chain one → chain ≡ []

-- a chain of waits is in a part that has two servers more at least than the chain has waits
abbrev pub WaitsAreShort : Type 0
WaitsAreShort =
    (names : List Name) (links : List Link) (full : Name → List Name) (one : Direction)
    (chain : List Direction) (last : Direction) → IsForest links → EndsAreAmong names links
    → IsOfLinks links one → IsChain links full one chain last
    → suc (length chain) < size_of_part names links one.writer

-- from every direction a chain of waits, or of none, leads to one that is read
abbrev pub WaitsEnd : Type 0
WaitsEnd = (links : List Link) (full : Name → List Name) (one : Direction) → IsForest links
    → OnlyLinksAreFull links full → IsOfLinks links one → WaitsForReader links full one

-- so where too much waits anywhere, it is somewhere being read
abbrev pub FullIsReadSomewhere : Type 0
FullIsReadSomewhere = (links : List Link) (full : Name → List Name) (one : Direction)
    → IsForest links → OnlyLinksAreFull links full → IsFull full one → SomeFullIsRead links full
