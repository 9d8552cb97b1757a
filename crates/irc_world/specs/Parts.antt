-- Where clients are, and what one server keeps of the room of its part.
use Rattle.std.specs.Prelude.{◌≡◌, ℕ, ◌≤◌, true, is_some, List, length}
use Rattle.std.specs.FinMap.{get}
use Rattle.irc_relay.specs.Links.{Name, AreJoined}
use Rattle.irc_room.specs.Room.{Room, IsWellFormed}
use Rattle.irc_room.specs.Invitations.{of_home}
use Rattle.irc_world.specs.World.{Setting, World}
use Rattle.irc_world.specs.Sound.{IsSound}

-- A server keeps of its part's room all but the invitations of other servers' users (our own
-- choice).
abbrev pub view_at : World → Name → Room
view_at world server = of_home server (world.hall server).room

abbrev pub ViewIsWellFormed : Type 0
ViewIsWellFormed = (settings : List Setting) (world : World) (server : Name)
    → IsSound settings world → IsWellFormed (view_at world server)

-- a client has a number that was given, and is in one part alone
pub record IsNumberedOnce (world : World) (client : ℕ) (server : Name) : Type 0 where
  pub first : 1 ≤ client
  pub last : client ≤ length world.homes
  pub nowhere_else : (other : Name) → is_some (get (world.hall other).clients client) ≡ true
      → AreJoined world.links server other

abbrev pub ClientsAreNumberedOnce : Type 0
ClientsAreNumberedOnce = (settings : List Setting) (world : World) (server : Name) (client : ℕ)
    → IsSound settings world
    → is_some (get (world.hall server).clients client) ≡ true → IsNumberedOnce world client server
