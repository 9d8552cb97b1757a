-- What a server is, to those above: what it knows of others, its configuration, its links, its
-- clients, its room. No index or queue is in it.
use Rattle.std.specs.Prelude.{◌≡◌, ℕ, Bool, nat_eq, Option, List, [], map, find}
use Rattle.std.specs.Option.{option_map}
use Rattle.std.specs.Cmp.Lexicographic.{pointwise}
use Rattle.std.specs.FinMap.{empty, insert, remove}
use Rattle.irc_routes.specs.Known.{Known, others, place_of}
use Rattle.irc_room.specs.Room.{Room}
use Rattle.irc_room.specs.Laws.{no_room}
use Rattle.irc_stage.specs.declared.peer.Peer.{Peer}
use Rattle.irc_stage.specs.RoomMachine.{Clients, RoomMachine}
pub use Rattle.irc_stage.specs.Ends.{End, Ends, fresh_end}

-- a server that may be linked to, and the password that both give each other
pub record KnownPeer : Type 0 where
  pub name : List ℕ
  pub password : List ℕ

abbrev pub known_peer : Peer → KnownPeer
known_peer peer = record { name = peer.name.items; password = peer.password.items }

pub record View : Type 0 where
  pub routes : Known
  pub peers : List KnownPeer
  pub ends : Ends
  pub clients : Clients
  pub room : Room

-- the room machine that a server is to its clients
abbrev pub machine_of : View → RoomMachine
machine_of view = record { place = place_of view.routes; clients = view.clients; room = view.room }

-- a link is open from now on, or no more
abbrev pub with_end : ℕ → Option (List ℕ) → View → View
with_end link starts view = record view { ends = insert view.ends link (fresh_end starts) }

abbrev pub without_end : ℕ → View → View
without_end link view = record view { ends = remove view.ends link }

-- a server without clients, linked to none, in an empty room
abbrev pub new_view : Known → List Peer → View
new_view routes peers = record {
  routes = routes;
  peers = map known_peer peers;
  ends = empty;
  clients = empty;
  room = no_room;
}

-- whether a peer has this name; servers' names have one spelling
abbrev pub is_peer_named : List ℕ → Peer → Bool
is_peer_named name peer = pointwise nat_eq peer.name.items name

abbrev pub is_named : List ℕ → KnownPeer → Bool
is_named name peer = pointwise nat_eq peer.name name

-- the password that a server and the peer of a name give each other, if there is such a peer
abbrev pub password_for : View → List ℕ → Option (List ℕ)
password_for view name =
    option_map (λ (peer : KnownPeer). peer.password) (find (is_named name) view.peers)

-- no link of the server is open, and it knows no other server
pub record IsAlone (view : View) : Type 0 where
  pub no_ends : view.ends ≡ empty
  pub no_others : others view.routes ≡ []
