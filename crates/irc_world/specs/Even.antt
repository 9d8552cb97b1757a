-- Which end of a link is named first makes no difference to anybody: neither when it is made, nor
-- when it is lost, nor afterwards.
use Rattle.std.specs.Prelude.{◌≡◌, ℕ, None, List}
use Rattle.irc_relay.specs.Links.{Name, joined}
use Rattle.irc_relay.specs.Links.{linked as are_linked}
use Rattle.irc_relay.specs.TurnedLinks.{AreTurned}
use Rattle.irc_world.specs.World.{Setting, World, place_at}
use Rattle.irc_world.specs.Stepping.{Item, link, cut, Stepped, step}
use Rattle.irc_world.specs.Refused.{refused}
use Rattle.irc_world.specs.Owed.{after_items, owed_from}
use Rattle.irc_world.specs.Sound.{IsSound, AreTaken}

-- Two worlds that are one but for the names of links: links are the same, whichever of their ends
-- is called near, everybody has the same home, and each server has the same hall.
pub record AreTheSameWorlds (one other : World) : Type 0 where
  pub links : AreTurned one.links other.links
  pub homes : one.homes ≡ other.homes
  pub hall : (server : Name) → one.hall server ≡ other.hall server

-- Then the same servers are joined and linked, and each knows the same of the network.
pub record LookTheSame (settings : List Setting) (one other : World) : Type 0 where
  pub one_part : (s t : Name) → joined one.links s t ≡ joined other.links s t
  pub one_link : (s t : Name) → are_linked one.links s t ≡ are_linked other.links s t
  pub place : (server : Name)
      → place_at settings one.links server ≡ place_at settings other.links server

-- and each client has received the same lines
pub record AreTheSame (settings : List Setting) (one other : Stepped) : Type 0 where
  pub worlds : AreTheSameWorlds one.state other.state
  pub looks : LookTheSame settings one.state other.state
  pub lines : (client : ℕ) → one.out client ≡ other.out client

-- another item would be taken as well, and it comes to the same
pub record MayBeToo (settings : List Setting) (world : World) (item other : Item) : Type 0 where
  pub taken : refused settings world other ≡ None
  pub same : AreTheSame settings (step settings world item) (step settings world other)

-- the other of the two may connect
abbrev pub LinkIsEven : Type 0
LinkIsEven = (settings : List Setting) (world : World) (near far : Name) → IsSound settings world
    → refused settings world (link near far) ≡ None
    → MayBeToo settings world (link near far) (link far near)

-- and either may lose the link
abbrev pub CutIsEven : Type 0
CutIsEven = (settings : List Setting) (world : World) (near far : Name) → IsSound settings world
    → refused settings world (cut near far) ≡ None
    → MayBeToo settings world (cut near far) (cut far near)

-- What comes after is the same in two such worlds, whatever it is.
pub record GoOnTheSame (settings : List Setting) (one other : World)
    (items : List Item) : Type 0 where
  pub taken : AreTaken settings other items
  pub worlds : AreTheSameWorlds (after_items settings one items) (after_items settings other items)
  pub lines : (client : ℕ)
      → owed_from settings one items client ≡ owed_from settings other items client

abbrev pub SameWorldsGoOn : Type 0
SameWorldsGoOn = (settings : List Setting) (one other : World) (items : List Item)
    → IsSound settings one → AreTheSameWorlds one other
    → AreTaken settings one items → GoOnTheSame settings one other items
