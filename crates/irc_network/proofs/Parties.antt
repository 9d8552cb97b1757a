-- A server that is to be an end of a link.
use Rattle.std.proofs.Common.{◌≡◌, ◌<◌, ℕ, Option, Some, None, refl, sym, ◌∙◌, ap, length}
use Rattle.std.specs.Borrow.{Bor}
use Rattle.std.specs.Option.{option_and_then, option_copied, option_map}
use Rattle.std.proofs.lemmas.Option.{same_Some}
use Rattle.irc_forest.specs.Forests.{name_at}
use Rattle.irc_room.specs.Applying.{ServerRoom}
use Rattle.irc_server.specs.Loops.Acting.{room_kept, room_of}
use Rattle.irc_stage.specs.View.{View}
use Rattle.irc_network.specs.declared.refusing.Party.{Party}
use Rattle.irc_network.specs.Loops.Parties.{IsPartyOf}
use Rattle.irc_network.specs.Network.{Network, Node, server_place, node_at, node_view}

view_there : (net : Network) (party : Party) (view : View) → server_place net party.name.now
    ≡ Some party.place → node_at net party.place ≡ Some party.node.now
    → party.node.now.server ≡ Some view → node_view net party.name.now ≡ Some view
view_there net party view place node is =
    ap (λ o. option_and_then (λ (s : Node). s.server) (option_and_then (node_at net) o)) place
    ∙ ap (option_and_then (λ (s : Node). s.server)) node ∙ is

room_there : (party : Party) (view : View) → party.node.now.server ≡ Some view
    → option_map room_of party.node.now.server ≡ Some party.room.now.room
    → party.room.now.room ≡ view.room
room_there party view is room =
    sym (same_Some (room_of view) party.room.now.room (sym (ap (option_map room_of) is) ∙ room))

party_there : (net : Network) (party : Party) → server_place net party.name.now ≡ Some party.place
    → party.place < length net.names → name_at net.names party.place ≡ party.name.now
    → node_at net party.place ≡ Some party.node.now → option_map room_of party.node.now.server
    ≡ Some party.room.now.room → IsPartyOf net party.name.now party
party_there net party place within named node room = by party.node.now.server refl room
  where
    by : (o : Option View) → party.node.now.server ≡ o
        → option_map room_of o ≡ Some party.room.now.room → IsPartyOf net party.name.now party
    by None is none = cc none
    by (Some view) is some = record {
      view = view;
      is_view = view_there net party view place node is;
      named = refl;
      within = within;
      place = named;
      server = is;
      room = room_there party view is room;
    }

-- it is what the code finds by its name, at its place, and in it
pub is_party : (net : Network) (party : Party) (places : Option ℕ) (nodes : Option (Bor Node))
    (rooms : Option (Bor ServerRoom)) → places ≡ server_place net party.name.now
    → places ≡ Some party.place → party.place < length net.names → name_at net.names party.place
    ≡ party.name.now → option_copied nodes ≡ node_at net party.place → nodes ≡ Some party.node
    → option_map room_kept (option_copied rooms) ≡ option_map room_of party.node.now.server
    → rooms ≡ Some party.room → IsPartyOf net party.name.now party
is_party net party places nodes rooms place found within named node found_node room found_room =
    party_there net party (sym place ∙ found) within named (sym node ∙ ap option_copied found_node)
    (sym room ∙ ap (λ o. option_map room_kept (option_copied o)) found_room)
