-- How the connections of a server and the users of its room belong together.
use Rattle.std.specs.Prelude.{◌≡◌, ℕ, ⊤, Bool, true, false, Some, None, List, nat_eq}
use Rattle.std.specs.List.{list_any}
use Rattle.std.specs.FinMap.{entries}
use Rattle.std.specs.Cmp.Lexicographic.{pointwise}
use Rattle.std.specs.Option.{option_map_or}
use Rattle.irc_names.specs.Fold.{key}
use Rattle.irc_names.specs.Tables.{row}
use Rattle.irc_users.specs.declared.user.User.{User}
use Rattle.irc_users.specs.UserTable.{is_home}
use Rattle.irc_room.specs.Room.{IsWellFormed}
use Rattle.irc_stage.specs.declared.clients.Client.{Client}
use Rattle.irc_stage.specs.declared.clients.Client.TheVariants.{Registering, Registered}
use Rattle.irc_stage.specs.RoomMachine.{Clients, RoomMachine, client_of}
use Rattle.irc_stage.specs.Handle.{ClientEvent, connects, handled}

-- whether there is a user of this nickname in the room, whose home is this server
abbrev pub is_user_here : RoomMachine → List ℕ → Bool
is_user_here machine nick =
    option_map_or (is_home machine.place.name) (row machine.room.users (key nick)) false

-- whether a client is registered by a nickname with this fold
abbrev pub is_user_of : List ℕ → Client → Bool
is_user_of fold (Registering pending) = false
is_user_of fold (Registered nick) = pointwise nat_eq (key nick) fold

abbrev pub has_client : Clients → List ℕ → Bool
has_client clients fold = list_any (λ (c : ℕ × Client). is_user_of fold c.1) (entries clients)

-- Each registered client is a user of the room whose home is this server, known by its nickname as
-- that is spelled, and each such user is one client's. That each connection number stands once is
-- what a finite map says.
pub record IsMatched (machine : RoomMachine) : Type 0 where
  pub registered_is_user : (conn : ℕ) (nick : List ℕ)
      → client_of machine conn ≡ Some (Registered nick) → is_user_here machine nick ≡ true
  pub user_has_one : (conn other : ℕ) (nick name : List ℕ)
      → client_of machine conn ≡ Some (Registered nick)
      → client_of machine other ≡ Some (Registered name) → key name ≡ key nick → other ≡ conn
  pub spelled : (conn : ℕ) (nick : List ℕ) (user : User) → client_of machine conn
      ≡ Some (Registered nick) → row machine.room.users (key nick) ≡ Some user → user.nick ≡ nick
  pub user_has_client : (fold : List ℕ) (user : User) → row machine.room.users fold ≡ Some user
      → user.home ≡ machine.place.name → has_client machine.clients fold ≡ true

-- a connection that connects is not there yet
abbrev pub IsDue : RoomMachine → ClientEvent → Type 0
IsDue machine (connects conn host) = client_of machine conn ≡ None
IsDue machine client_event = ⊤

-- Whatever happens, clients and users stay matched.
abbrev pub StaysMatched : Type 0
StaysMatched = (machine : RoomMachine) → IsMatched machine
    → IsWellFormed machine.room → (client_event : ClientEvent) → IsDue machine client_event
    → IsMatched (handled machine client_event).state
