-- The network as its people know it: its servers, the links between them, and for each part that
-- links join one room with its clients. No message, route, token, burst or queue is in it (RFC 2810
-- section 3).
use Rattle.std.specs.Prelude.{ℕ, zero, suc, Bool, ◌||◌, Option, Some, None, is_some, List, []}
use Rattle.std.specs.Prelude.{count_by, map, if◌then◌else◌}
use Rattle.std.specs.List.{find, slice_get}
use Rattle.std.specs.Option.{option_map, option_map_or}
use Rattle.std.specs.FinMap.{empty, keys, values}
use Rattle.irc_names.specs.Tables.{tabulate}
use Rattle.irc_relay.specs.Links.{Name, same, Link, joined, distance}
use Rattle.irc_room.specs.Room.{Room}
use Rattle.irc_room.specs.Laws.{no_room}
use Rattle.irc_routes.specs.About.{About, says_nothing}
use Rattle.irc_routes.specs.Place.{KnownServer, Place, alone}
use Rattle.irc_stage.specs.View.{KnownPeer}
use Rattle.irc_stage.specs.RoomMachine.{Clients, RoomMachine}

-- a server as it is configured
pub record Setting : Type 0 where
  pub name : Name
  pub about : About
  pub peers : List KnownPeer

-- what those share who are in one part: the clients, each under its number, and the room
pub record Hall : Type 0 where
  pub clients : Clients
  pub room : Room

-- Links, the newest first; the home of each client that ever connected, in the order of their
-- numbers, which begin with 1; and for each server the hall of the part that it is in.
pub record World : Type 0 where
  pub links : List Link
  pub homes : List Name
  pub hall : Name → Hall

-- nobody is there, and no link
abbrev pub new_world : World
new_world =
    record { links = []; homes = []; hall = λ server. record { clients = empty; room = no_room } }

-- how the server of this name is set up, if there is one
abbrev pub setting_of : List Setting → Name → Option Setting
setting_of settings server = find (λ (s : Setting). same s.name server) settings

-- whoever is set up is a server, linked or not
abbrev pub is_server : List Setting → Name → Bool
is_server settings server = is_some (setting_of settings server)

-- these of the servers, in order of name
abbrev pub servers_where : List Setting → (Name → Bool) → List Name
servers_where settings test =
    keys (tabulate (map (λ (s : Setting). s.name) settings) (λ server. if test server
    then Some (tt {0}) else None))

-- the home of a client, if there ever was one of this number
abbrev pub home_in : List Name → ℕ → Option Name
home_in homes zero = None
home_in homes (suc earlier) = slice_get homes earlier

-- the server that a client connected to; it stays its home when the client is gone
abbrev pub home_of : World → ℕ → Option Name
home_of world client = home_in world.homes client

-- ---- what one server's clients are told of the network

-- a server of the part that this one is in
abbrev pub known_from : List Setting → List Link → Name → Name → Option KnownServer
known_from settings links own server =
    if joined links own server then option_map
    (λ (s : Setting). record {
      name = s.name;
      info = s.about.info;
      distance = distance links own server;
    })
    (setting_of settings server) else None

-- whether a link is one of this server's
abbrev pub has_end : Name → Link → Bool
has_end server link = same link.near server || same link.far server

-- itself, how many links it has, and the servers of its part in order of name, itself too
abbrev pub joined_place : List Setting → List Link → Setting → Place
joined_place settings links own = record {
  name = own.name;
  about = own.about;
  links = count_by (has_end own.name) links;
  servers = values
      (tabulate (map (λ (s : Setting). s.name) settings) (known_from settings links own.name));
}

-- where the clients of a server are; a name that is no server's stands alone
abbrev pub place_at : List Setting → List Link → Name → Place
place_at settings links server =
    option_map_or (joined_place settings links) (setting_of settings server)
    (alone server says_nothing)

-- the room machine of a part, as one of its servers' clients meet it
abbrev pub machine_at : List Setting → World → Name → RoomMachine
machine_at settings world server = record {
  place = place_at settings world.links server;
  clients = (world.hall server).clients;
  room = (world.hall server).room;
}

-- everybody who is joined to a server has this hall
abbrev pub with_hall : Name → Hall → World → World
with_hall server hall world = record world {
  hall = λ other. if joined world.links other server
      then hall else world.hall other;
}
