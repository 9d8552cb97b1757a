-- What holds of the network, whatever is given to it.
use Rattle.std.specs.Prelude.{◌≡◌, ℕ, ⊤, true, Some, None, is_some, List, [], ◌∷◌}
use Rattle.std.specs.FinMap.{get}
use Rattle.irc_relay.specs.Links.{Name, Link, AreJoined, AreLinked, IsForest}
use Rattle.irc_room.specs.Room.{IsWellFormed}
use Rattle.irc_room.specs.InTurn.{IsSoFirst}
use Rattle.irc_world.specs.World.{Setting, World, is_server, home_in, home_of}
use Rattle.irc_world.specs.Stepping.{Item, step}
use Rattle.irc_world.specs.Refused.{refused}

-- a client has connected to some server, its home, and that is joined to this one
pub record HasHomeBy (links : List Link) (homes : List Name) (client : ℕ)
    (server : Name) : Type 0 where
  pub home : Name
  pub is_home : home_in homes client ≡ Some home
  pub joined : AreJoined links home server

-- Links are a forest. Servers that links join have one hall. Its room is well formed. Each client
-- in it, of whatever number, has its home in that part; so no client is in two halls. Each home is
-- a server that there is, and so is each end of a link.
pub record IsSound (settings : List Setting) (world : World) : Type 0 where
  pub forest : IsForest world.links
  pub one_hall : (server other : Name) → AreJoined world.links server other
      → world.hall server ≡ world.hall other
  pub well_formed : (server : Name) → IsWellFormed (world.hall server).room
  pub clients_home : (server : Name) (client : ℕ) → is_some (get (world.hall server).clients client)
      ≡ true → HasHomeBy world.links world.homes client server
  pub homes_known : (client : ℕ) (home : Name) → home_of world client ≡ Some home
      → is_server settings home ≡ true
  pub ends_known : (s t : Name) → AreLinked world.links s t → is_server settings s ≡ true

-- none of these items is refused when its turn comes
abbrev pub AreTaken : List Setting → World → List Item → Type 0
AreTaken settings world [] = ⊤
AreTaken settings world (item ∷ items) =
    IsSoFirst (refused settings world item ≡ None)
    (AreTaken settings (step settings world item).state items)
