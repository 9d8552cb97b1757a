-- A side when a link is made or lost, the sources from which its lines come, and who is far for it.
use Rattle.std.specs.Prelude.{◌≡◌, ◌≢◌, ℕ, ◌<◌, true, List, ◌∷◌}
use Rattle.irc_relay.specs.Distances.{IsAmong}
use Rattle.irc_relay.specs.Links.{Name, Link, part, toward, links_without, AreJoined, AreLinked}
use Rattle.irc_relay.specs.Links.{IsForest, IsKept}
use Rattle.irc_relay.specs.Relay.{streams_from, Covers, TakesFrom}
use Rattle.irc_follow.specs.SideState.{ItemSetting, SideState, IsSoundSide}
use Rattle.irc_follow.specs.Says.{IsFar}
use Rattle.irc_follow.specs.Tree.{Tree, IsSoundTree}

-- these links instead of those that there were; what is known, and what each server keeps, stays
abbrev pub with_links : List Link → Tree → Tree
with_links links tree = record tree { forest = links }

abbrev pub relinked : List Link → SideState → SideState
relinked links w = record w { tree = with_links links w.tree }

-- lines come from other sources, along these links
abbrev pub taking_from : List Link → (Name → Name) → ItemSetting → ItemSetting
taking_from links source s = record s { streams = streams_from links source }

-- a link that may be made: between two servers that are not joined
pub record CanLink (names : List Name) (tree : Tree) (l : Link) : Type 0 where
  pub near : IsAmong names l.near
  pub far : IsAmong names l.far
  pub apart : part tree.forest l.near ≢ part tree.forest l.far

-- A link that may go: nobody of this side knows a server any more that it was joined to over that
-- link alone.
pub record CanCut (tree : Tree) (a b : Name) : Type 0 where
  pub linked : AreLinked tree.forest a b
  pub still : (t x : Name) → tree.here t ≡ true → tree.knows x ≡ true
      → AreJoined (links_without tree.forest a b) t x

-- The servers of a side are as they are to be with a link more, of which they do not know yet.
abbrev pub TreeAfterLink : Type 0
TreeAfterLink = (names : List Name) (info : Name → List ℕ) (tree : Tree) (l : Link)
    → IsSoundTree names info tree → CanLink names tree l
    → IsSoundTree names info (with_links (l ∷ tree.forest) tree)

-- So is the whole side, whatever sources its lines come from, if they cover the links.
abbrev pub SideAfterLink : Type 0
SideAfterLink = (s : ItemSetting) (w : SideState) (l : Link) (source : Name → Name)
    → IsSoundSide s w
    → CanLink s.names w.tree l → Covers (l ∷ w.tree.forest) source
    → IsSoundSide (taking_from (l ∷ w.tree.forest) source s) (relinked (l ∷ w.tree.forest) w)

-- The servers of a side are as they are to be without a link, once they have lost all that were
-- behind it.
abbrev pub TreeAfterCut : Type 0
TreeAfterCut = (names : List Name) (info : Name → List ℕ) (tree : Tree) (a b : Name)
    → IsSoundTree names info tree → CanCut tree a b
    → IsSoundTree names info (with_links (links_without tree.forest a b) tree)

abbrev pub SideAfterCut : Type 0
SideAfterCut = (s : ItemSetting) (w : SideState) (a b : Name) (source : Name → Name)
    → IsSoundSide s w
    → CanCut w.tree a b
    → Covers (links_without w.tree.forest a b) source
    → IsSoundSide (taking_from (links_without w.tree.forest a b) source s)
    (relinked (links_without w.tree.forest a b) w)

-- The lines of a side come along these links from these sources: along all the links, or along what
-- is left of them. Who is further from its source than one link takes them from a server of this
-- side.
pub record FlowsAlong (links : List Link) (source : Name → Name) (tree : Tree) : Type 0 where
  pub forest : IsForest links
  pub kept : (t u : Name) → AreJoined links t u → IsKept links tree.forest t u
  pub covers : Covers links source
  pub inside : (t p : Name) → tree.here t ≡ true → TakesFrom (streams_from links source) t p
      → 1 < (streams_from links source).depth t → tree.here p ≡ true

-- A side stays sound whatever sources its lines come from, along its links or what is left of them.
abbrev pub OtherSources : Type 0
OtherSources = (s : ItemSetting) (w : SideState) (links : List Link) (source : Name → Name)
    → IsSoundSide s w
    → FlowsAlong links source w.tree
    → IsSoundSide (taking_from links source s) w

-- a server that is behind the source, for each server of this side that is next to that
pub record IsBehindSource (links : List Link) (source : Name → Name) (tree : Tree)
    (x : Name) : Type 0 where
  pub joined : (t : Name) → tree.here t ≡ true → AreJoined tree.forest t x
  pub next : (t : Name) → tree.here t ≡ true → (streams_from links source).depth t ≡ 1
      → toward tree.forest t x ≡ (streams_from links source).parent t

-- Who is behind the source for the servers next to it is far for all of the side.
abbrev pub BehindSourceIsFar : Type 0
BehindSourceIsFar =
    (s : ItemSetting) (w : SideState) (links : List Link) (source : Name → Name) (x : Name)
    → IsForest w.tree.forest → FlowsAlong links source w.tree
    → IsBehindSource links source w.tree x → IsFar (taking_from links source s) w x
