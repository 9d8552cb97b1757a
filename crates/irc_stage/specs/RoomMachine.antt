-- The machine that one room is, to those who are in it: what a decision may know of its server, the
-- clients, the room. No link is in it.
use Rattle.std.specs.Prelude.{ℕ, Option, map}
use Rattle.std.specs.Ordering.{nat_cmp}
use Rattle.std.specs.FinMap.{FinMap, get, insert, remove, entries, from_entries}
use Rattle.irc_routes.specs.Place.{Place}
use Rattle.irc_room.specs.Room.{Room}
use Rattle.irc_stage.specs.declared.clients.Client.{Client}

-- the clients, each under the number of its connection
abbrev pub Clients : Type 0
Clients = FinMap nat_cmp Client

-- what a server is to its clients: where they are, who is connected, and the room they meet in
pub record RoomMachine : Type 0 where
  pub place : Place
  pub clients : Clients
  pub room : Room

-- who has this connection, if anyone
abbrev pub client_of : RoomMachine → ℕ → Option Client
client_of machine conn = get machine.clients conn

-- the connection is this client from now on
abbrev pub with_client : RoomMachine → ℕ → Client → RoomMachine
with_client machine conn client = record machine { clients = insert machine.clients conn client }

-- the connection is nobody any more
abbrev pub without_client : RoomMachine → ℕ → RoomMachine
without_client machine conn = record machine { clients = remove machine.clients conn }

-- each client changed
abbrev pub each_client : (Client → Client) → Clients → Clients
each_client change clients =
    from_entries (map (λ (e : ℕ × Client). (e.0, change e.1)) (entries clients))
