-- How the clients of the network and the users of its rooms belong together.
use Rattle.std.specs.Prelude.{◌≡◌, ℕ, Option, Some, None, List}
use Rattle.std.specs.Option.{option_and_then}
use Rattle.std.specs.FinMap.{get}
use Rattle.irc_names.specs.Fold.{key}
use Rattle.irc_room.specs.Readers.{home_under}
use Rattle.irc_relay.specs.Links.{Name}
use Rattle.irc_stage.specs.declared.clients.Client.{Client}
use Rattle.irc_stage.specs.declared.clients.Client.TheVariants.{Registering, Registered}
use Rattle.irc_stage.specs.RoomMachine.{Clients}
use Rattle.irc_world.specs.World.{Setting, World, new_world, home_of}
use Rattle.irc_world.specs.Stepping.{Item, step}
use Rattle.irc_world.specs.Refused.{refused}
use Rattle.irc_world.specs.Owed.{world_of}
use Rattle.irc_world.specs.Sound.{IsSound, AreTaken}
use Rattle.irc_world.specs.UsersHomes.{HomesAreServers, HomesAreJoined}

-- the fold of the nickname by which a client is registered
abbrev pub fold_of : Client → Option (List ℕ)
fold_of (Registering pending) = None
fold_of (Registered nick) = Some (key nick)

abbrev pub registered_as : Clients → ℕ → Option (List ℕ)
registered_as clients client = option_and_then fold_of (get clients client)

-- a client and the user under a fold have one home
pub record HaveOneHome (homes : ℕ → Option Name) (user_home : List ℕ → Option Name) (client : ℕ)
    (fold : List ℕ) : Type 0 where
  pub home : Name
  pub of_client : homes client ≡ Some home
  pub of_user : user_home fold ≡ Some home

-- some client is registered under a fold
pub record HasClient (registered : ℕ → Option (List ℕ)) (fold : List ℕ) : Type 0 where
  pub client : ℕ
  pub is_registered : registered client ≡ Some fold

-- Each registered client is a user, and its home is that client's; no two clients are one user; and
-- each user is a client.
pub record AreMatched (homes : ℕ → Option Name) (user_home : List ℕ → Option Name)
    (registered : ℕ → Option (List ℕ)) : Type 0 where
  pub registered_is_user : (client : ℕ) (fold : List ℕ) → registered client ≡ Some fold
      → HaveOneHome homes user_home client fold
  pub user_has_one : (client other : ℕ) (fold : List ℕ) → registered client ≡ Some fold
      → registered other ≡ Some fold → other ≡ client
  pub user_has_client : (fold : List ℕ) (home : Name) → user_home fold ≡ Some home
      → HasClient registered fold

-- in the hall of every server
abbrev pub ClientsAreUsers : World → Type 0
ClientsAreUsers world = (server : Name) → AreMatched (home_of world)
    (home_under (world.hall server).room) (registered_as (world.hall server).clients)

abbrev pub StepKeepsMatched : Type 0
StepKeepsMatched = (settings : List Setting) (world : World) (item : Item) → IsSound settings world
    → HomesAreServers settings world
    → HomesAreJoined world → ClientsAreUsers world → refused settings world item ≡ None
    → ClientsAreUsers (step settings world item).state

-- so it is after any items of which none is refused
abbrev pub RegisteredAreUsers : Type 0
RegisteredAreUsers = (settings : List Setting) (items : List Item)
    → AreTaken settings new_world items → ClientsAreUsers (world_of settings items)
