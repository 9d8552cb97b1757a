-- A network of one server is that server: what happens to the one happens to the other, and their
-- clients receive the same.
use Rattle.std.specs.Prelude.{◌≡◌, ℕ, suc, true, Option, Some, None, is_some, List, [], ◌∷◌, ◌++◌}
use Rattle.std.specs.Prelude.{Ok, length, map, option_to_list}
use Rattle.std.specs.FinMap.{empty}
use Rattle.std.specs.Option.{option_map}
use Rattle.irc_line.specs.Reading.{read_of}
use Rattle.irc_room.specs.Laws.{no_room}
use Rattle.irc_routes.specs.About.{About}
use Rattle.irc_routes.specs.Known.{alone_known}
use Rattle.irc_stage.specs.RoomMachine.{RoomMachine, client_of}
use Rattle.irc_server.specs.declared.config.Config.{Config}
use Rattle.irc_server.specs.declared.event.Event.{Event}
use Rattle.irc_server.specs.declared.event.ServerFault.TheVariants.{NoSuchConnection}
use Rattle.irc_server.specs.ReadEvents.{read_event_of}
use Rattle.irc_server.specs.Configuring.{IsMadeAs, new_server}
use Rattle.irc_stage.specs.View.{View, known_peer, machine_of}
use Rattle.irc_stage.specs.Handle.{ClientEvent, connects, says, goes}
use Rattle.irc_server.specs.Served.{of_client, served, fault_of}
use Rattle.irc_server.specs.Owed.{lines_to}
use Rattle.irc_server.specs.Owed.{lines_owed as owed_by_server}
use Rattle.irc_world.specs.World.{Setting, World, new_world}
use Rattle.irc_world.specs.Stepping.{Item, connect, line, gone, link, cut, step}
use Rattle.irc_world.specs.Refused.{refused, no_such_client}
use Rattle.irc_world.specs.Owed.{owed_by_network}
use Rattle.irc_world.specs.Sound.{IsSound, AreTaken}

-- a server as it is configured: it knows no other, and nobody is there
abbrev pub lone_view : Setting → View
lone_view setting = record {
  routes = alone_known setting.name setting.about;
  peers = setting.peers;
  ends = empty;
  clients = empty;
  room = no_room;
}

-- a server as a configuration says it that says this of itself
abbrev pub configured : About → Config → Setting
configured about config = record {
  name = config.own.name.items;
  about = about;
  peers = map known_peer config.peers.items;
}

-- no two servers are there that a link could join
abbrev pub OneServerHasNoLink : Type 0
OneServerHasNoLink = (setting : Setting) (world : World) → IsSound (setting ∷ []) world
    → world.links ≡ []

-- what is made of a configuration is that
abbrev pub NewServerIsAlone : Type 0
NewServerIsAlone = (about : About) (config : Config) (server : Option View)
    → IsMadeAs (new_server about config) config (Ok server)
    → server ≡ Some (lone_view (configured about config))

-- a server is all that a network of one server is to its clients: it knows no other, and has the
-- clients and the room of its hall
pub record IsTheServer (setting : Setting) (world : World) (view : View) : Type 0 where
  pub routes : view.routes ≡ alone_known setting.name setting.about
  pub no_ends : view.ends ≡ empty
  pub clients : view.clients ≡ (world.hall setting.name).clients
  pub room : view.room ≡ (world.hall setting.name).room

-- what an item is to the one server: there is no other that it could be linked to
abbrev pub client_event_at : World → Item → Option ClientEvent
client_event_at world (connect server host) = Some (connects (suc (length world.homes)) host)
client_event_at world (line client bytes) = Some (says client (read_of bytes))
client_event_at world (gone client) = Some (goes client)
client_event_at world (link near far) = None
client_event_at world (cut near far) = None

-- who connects is not there yet, and all others are: so no server refuses it
abbrev pub IsExpected : RoomMachine → ClientEvent → Type 0
IsExpected machine (connects conn host) = client_of machine conn ≡ None
IsExpected machine (says conn read) = is_some (client_of machine conn) ≡ true
IsExpected machine (goes conn) = is_some (client_of machine conn) ≡ true

-- an item does to the network what it does to the server
pub record IsServed (setting : Setting) (world : World) (view : View) (item : Item) : Type 0 where
  pub client_event : ClientEvent
  pub is_item : client_event_at world item ≡ Some client_event
  pub expected : IsExpected (machine_of view) client_event
  pub stays : IsTheServer setting (step (setting ∷ []) world item).state
      (served view (of_client client_event)).state
  pub lines : (client : ℕ) → (step (setting ∷ []) world item).out client
      ≡ lines_to client (served view (of_client client_event)).out

-- any item that is not refused is one for the one server, and it does the same
abbrev pub OneServerIsTheNetwork : Type 0
OneServerIsTheNetwork = (setting : Setting) (world : World) (view : View) (item : Item)
    → IsSound (setting ∷ []) world → IsTheServer setting world view
    → refused (setting ∷ []) world item ≡ None → IsServed setting world view item

-- what these items are to the one server, each when its turn comes
abbrev pub client_events_from : List Setting → World → List Item → List ClientEvent
client_events_from settings world [] = []
client_events_from settings world (item ∷ items) =
    option_to_list (client_event_at world item) ++ client_events_from settings
    (step settings world item).state items

-- so the clients of a network of one server are owed what that server owes them
abbrev pub OneServerOwes : Type 0
OneServerOwes = (setting : Setting) (items : List Item) → AreTaken (setting ∷ []) new_world items
    → (client : ℕ)
    → owed_by_network (setting ∷ []) items client ≡ owed_by_server client (lone_view setting)
    (client_events_from (setting ∷ []) new_world items)

-- What a client would do that is not there, the one server refuses as well.
abbrev pub OneServerRefuses : Type 0
OneServerRefuses =
    (setting : Setting) (world : World) (view : View) (item : Item) (event : Event)
    → IsSound (setting ∷ []) world → IsTheServer setting world view
    → option_map of_client (client_event_at world item) ≡ Some (read_event_of event)
    → refused (setting ∷ []) world item ≡ Some no_such_client
    → fault_of view event ≡ Some NoSuchConnection
