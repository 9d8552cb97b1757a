-- The sides of what is given to a network: of what a client says, of a new link and of a lost one.
-- Which servers are far for each.
use Rattle.std.specs.Prelude.{◌≡◌, Decides, true, List, ◌∷◌}
use Rattle.irc_relay.specs.Links.{Name, Link, links_without, AreJoined, AreLinked, IsForest}
use Rattle.irc_relay.specs.Relay.{from_near_end, from_one, from_other_end}
use Rattle.irc_follow.specs.Relinked.{with_links, CanCut, FlowsAlong, IsBehindSource}
use Rattle.irc_follow.specs.Tree.{Tree}

-- the servers of this side are those that these links join to one
abbrev pub IsSide : List Link → Name → Tree → Type 0
IsSide links end tree = (t : Name) → Decides (tree.here t) (AreJoined links t end)

-- the lines of a side come along these links, and x is behind their source
pub record IsToldOf (links : List Link) (source : Name → Name) (tree : Tree)
    (x : Name) : Type 0 where
  pub along : FlowsAlong links source tree
  pub behind : IsBehindSource links source tree x

-- what a client of a server says: that server is the source of its whole part, and behind is the
-- server itself
abbrev pub SourceTells : Type 0
SourceTells = (tree : Tree) (a : Name) → IsForest tree.forest → IsSide tree.forest a tree
    → IsToldOf tree.forest (from_one tree.forest a) tree a

-- a new link: the near end's side is told of the servers that were joined to the far end, and the
-- far end's side of those that were joined to the near end
abbrev pub NearSideIsTold : Type 0
NearSideIsTold = (l : Link) (links : List Link) (tree : Tree) (x : Name) → IsForest (l ∷ links)
    → IsSide links l.near tree → AreJoined links l.far x
    → IsToldOf (l ∷ links) (from_other_end links l.near l.far) (with_links (l ∷ links) tree) x

abbrev pub FarSideIsTold : Type 0
FarSideIsTold = (l : Link) (links : List Link) (tree : Tree) (x : Name) → IsForest (l ∷ links)
    → IsSide links l.far tree → AreJoined links l.near x
    → IsToldOf (l ∷ links) (from_other_end links l.near l.far) (with_links (l ∷ links) tree) x

-- a lost link: the side of each of its ends is told of the servers that are still joined to the
-- other
abbrev pub OneSideIsLeft : Type 0
OneSideIsLeft = (tree : Tree) (a b x : Name) → IsForest tree.forest → AreLinked tree.forest a b
    → IsSide (links_without tree.forest a b) a tree
    → AreJoined (links_without tree.forest a b) x b
    → IsToldOf (links_without tree.forest a b)
    (from_near_end (links_without tree.forest a b) a b) tree x

abbrev pub OtherSideIsLeft : Type 0
OtherSideIsLeft = (tree : Tree) (a b x : Name) → IsForest tree.forest → AreLinked tree.forest a b
    → IsSide (links_without tree.forest a b) b tree
    → AreJoined (links_without tree.forest a b) x a
    → IsToldOf (links_without tree.forest a b)
    (from_near_end (links_without tree.forest a b) a b) tree x

-- and once it knows nobody but those that are still joined to its end, the link may go
abbrev pub CutOnceLost : Type 0
CutOnceLost = (tree : Tree) (a b end : Name) → AreLinked tree.forest a b
    → IsSide (links_without tree.forest a b) end tree
    → ((x : Name) → tree.knows x ≡ true → AreJoined (links_without tree.forest a b) x end)
    → CanCut tree a b
