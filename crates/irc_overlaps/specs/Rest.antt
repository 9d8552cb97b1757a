-- A network in which nothing is on its way, and one as it begins.
--
-- a.net and b.net are linked, at a.net by 3 and at b.net by 4:
--   no line is on its way to 3 of a.net nor to 4 of b.net    nothing is on its way
--   a.net has closed 3, and b.net has not been told          something is: that the link is lost
use Rattle.std.specs.Prelude.{◌≡◌, ℕ, is_some, Option, Some, None, List, []}
use Rattle.std.specs.FinMap.{empty}
use Rattle.irc_relay.specs.Links.{Name, AreJoined, AreLinked, IsForest, Link}
use Rattle.irc_room.specs.Laws.{no_room}
use Rattle.irc_stage.specs.View.{View, IsAlone}
use Rattle.irc_layer.specs.Layers.{LayerView}
use Rattle.irc_overlaps.specs.Networks.{Net, EndAt, end_at, AreOneLink}

-- ---- nothing is on its way

-- no line is on its way to an end, nor that the other one is gone
pub record IsEndQuiet (net : Net) (s : Name) (n : ℕ) : Type 0 where
  pub no_line : net.coming s n ≡ []
  pub whole : (t : Name) (m : ℕ) → net.other s n ≡ Some (end_at t m)
      → AreOneLink net.other s n t m

abbrev pub IsQuietAt : Net → Name → Type 0
IsQuietAt net s = (n : ℕ) → IsEndQuiet net s n

-- in the part of s
abbrev pub IsQuietPart : Net → Name → Type 0
IsQuietPart net s = (t : Name) → AreJoined net.links s t → IsQuietAt net t

-- in the network
abbrev pub IsQuiet : Net → Type 0
IsQuiet net = (s : Name) → IsQuietAt net s

-- ---- how it begins

-- the server of this name has no client and no link, in an empty room, and so has its layer
pub record IsNewLayer (s : Name) (layer : LayerView) : Type 0 where
  pub view : View
  pub server_is : layer.server ≡ Some view
  pub named : view.routes.name ≡ s
  pub alone : IsAlone view
  pub no_clients : view.clients ≡ empty
  pub empty_room : view.room ≡ no_room
  pub no_ends : layer.ends ≡ (λ n. None)

pub record IsNew (net : Net) : Type 0 where
  pub no_links : net.links ≡ []
  pub layers : (s : Name) → IsNewLayer s (net.layer s)
  pub no_ends : net.other ≡ (λ s n. None)
  pub none_coming : net.coming ≡ (λ s n. [])
  pub none_told : net.told ≡ (λ s conn. [])
  pub none_closed : net.closings ≡ []

-- ---- links, and their ends

-- the numbers of a link between two
pub record HasNumbers (other : Name → ℕ → Option EndAt) (s t : Name) : Type 0 where
  pub near : ℕ
  pub far : ℕ
  pub are_one : AreOneLink other s near t far

-- The links are a forest. Those are linked that have the two ends of one link, which is one alone;
-- and nothing is on its way to an end that is not there.
pub record AreSound (links : List Link) (other : Name → ℕ → Option EndAt)
    (coming : Name → ℕ → List (List ℕ)) : Type 0 where
  pub forest : IsForest links
  pub numbers : (s t : Name) → AreLinked links s t → HasNumbers other s t
  pub linked : (s t : Name) (n m : ℕ) → AreOneLink other s n t m → AreLinked links s t
  pub one : (s t : Name) (n m k l : ℕ) → AreOneLink other s n t m → AreOneLink other s k t l → n ≡ k
  pub none_coming : (s : Name) (n : ℕ) → other s n ≡ None → coming s n ≡ []

abbrev pub IsSound : Net → Type 0
IsSound net = AreSound net.links net.other net.coming

-- The ends that are there are just those that the layers have.
abbrev pub HaveTheirEnds : Net → Type 0
HaveTheirEnds net =
    (s : Name) (n : ℕ) → is_some ((net.layer s).ends n) ≡ is_some (net.other s n)
