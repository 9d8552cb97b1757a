-- One side of the network while an item is in flight: its servers, and the room and the clients of
-- those who are in it; and what a deed does to it.
--
-- a.net, b.net and c.net are linked in a row; al is client 1 of a.net, and in #c. `:al PART #c
-- :bye` is a line of a.net's client. Until b.net has taken the line by which a.net tells of it,
-- b.net is at the moment of before, and so is c.net; a.net's own is that of afterwards. What each
-- of them is at its moment, `Fits` says.
use Rattle.std.specs.Prelude.{◌≡◌, ◌≤◌, ℕ, Bool, true, false, Option, Some, None, List, [], ◌∷◌, ◌++◌}
use Rattle.std.specs.Prelude.{length, not, if◌then◌else◌}
use Rattle.std.specs.List.{list_any}
use Rattle.std.specs.Option.{option_map_or}
use Rattle.std.specs.FinMap.{get, retain_keys}
use Rattle.irc_names.specs.Fold.{same as same_nick}
use Rattle.irc_room.specs.effect.Effect.{Effect}
use Rattle.irc_room.specs.effect.Effect.TheVariants.{Quit}
use Rattle.irc_room.specs.Limits.{IsWithinLimits}
use Rattle.irc_room.specs.Readers.{home_under}
use Rattle.irc_room.specs.Room.{Room, IsWellFormed}
use Rattle.irc_room.specs.After.{after}
use Rattle.irc_merge.specs.Deeds.{Deed, does, gains, loses, kills, after_deed, shown_by}
use Rattle.irc_merge.specs.Quits.{collision_text}
use Rattle.irc_relay.specs.Distances.{IsAmong}
use Rattle.irc_relay.specs.Links.{Name, same, AreLinked}
use Rattle.irc_relay.specs.Relay.{Streams, TakesFrom}
use Rattle.irc_routes.specs.About.{About, says_nothing}
use Rattle.irc_routes.specs.Limits.{max_servers}
use Rattle.irc_stage.specs.declared.clients.Client.{Client}
use Rattle.irc_stage.specs.declared.clients.Client.TheVariants.{Registering, Registered}
use Rattle.irc_stage.specs.EffectTold.{is_another}
use Rattle.irc_stage.specs.Handle.{clients_after}
use Rattle.irc_stage.specs.RoomMachine.{Clients}
use Rattle.irc_world.specs.ClientsUsers.{HaveOneHome, registered_as}
use Rattle.irc_world.specs.Homes.{HomesPass}
use Rattle.irc_world.specs.World.{Setting, Hall, home_in, is_server, setting_of}
use Rattle.irc_follow.specs.Tree.{Tree, gained, lost, index_in, AreServers, IsSoundTree}
use Rattle.irc_commands.specs.Closing.{error_line}

-- What stays meanwhile: the servers as they are configured, and their names; the home of each
-- client that ever connected; and where each server's lines come from.
pub record ItemSetting : Type 0 where
  pub settings : List Setting
  pub names : List Name
  pub homes : List Name
  pub streams : Streams

-- a server's number, which is that of the link to it
abbrev pub number : ItemSetting → Name → ℕ
number s server = index_in s.names server

-- what a server says of itself
abbrev pub about_in : List Setting → Name → About
about_in settings server =
    option_map_or (λ (own : Setting). own.about) (setting_of settings server) says_nothing

-- how it describes itself
abbrev pub info_in : List Setting → Name → List ℕ
info_in settings server = (about_in settings server).info

-- whether a server is a client's home
abbrev pub is_home_of : List Name → Name → ℕ → Bool
is_home_of homes server client = option_map_or (same server) (home_in homes client) false

pub record IsItemSetting (s : ItemSetting) : Type 0 where
  pub servers : AreServers s.names (info_in s.settings)
  pub few : length s.names ≤ max_servers
  pub listed : (server : Name) → is_server s.settings server ≡ list_any (same server) s.names
  -- links tell each of them who is away
  pub told_away : (server : Name) → IsAmong s.names server
      → (about_in s.settings server).tells_away ≡ true

pub record SideState : Type 0 where
  pub tree : Tree
  pub hall : Hall

-- ---- what a deed does

-- a user that quits has no client any more
abbrev pub clients_left : Effect → Clients → Clients
clients_left (Quit nick text) clients = retain_keys clients (is_another clients nick)
clients_left effect clients = clients_after effect clients

abbrev pub hall_after : Effect → Hall → Hall
hall_after effect hall =
    record { clients = clients_left effect hall.clients; room = after hall.room effect }

-- the clients of other servers than this
abbrev pub clients_elsewhere : List Name → Name → Clients → Clients
clients_elsewhere homes server clients =
    retain_keys clients (λ client. not (is_home_of homes server client))

-- With a server that is lost its clients are.
unfoldable pub done : ItemSetting → SideState → Deed → SideState
done s w (does effect) = record w { hall = hall_after effect w.hall }
done s w (gains uplink name info) = record w { tree = gained s.names uplink name info w.tree }
done s w (loses server name text) = record {
  tree = lost name w.tree;
  hall = record {
    clients = clients_elsewhere s.homes name w.hall.clients;
    room = after_deed w.hall.room (loses server name text);
  };
}
done s w (kills server nick) = record w { hall = hall_after (Quit nick collision_text) w.hall }
done s w deed = record w { hall = record w.hall { room = after_deed w.hall.room deed } }

-- ---- what a client sees of it

-- one that is killed is told so last
abbrev pub told_end : Deed → List ℕ → List (List ℕ)
told_end (kills server nick) viewer =
    if same_nick viewer nick then error_line collision_text ∷ [] else []
told_end deed viewer = []

abbrev pub client_sees : Deed → Room → Option Client → List (List ℕ)
client_sees deed room None = []
client_sees deed room (Some (Registering pending)) = []
client_sees deed room (Some (Registered nick)) = shown_by nick room deed ++ told_end deed nick

-- and it sees that at its home alone
abbrev pub shown_at : ItemSetting → ℕ → Name → SideState → Deed → List (List ℕ)
shown_at s client t w deed = if is_home_of s.homes t client
    then client_sees deed w.hall.room (get w.hall.clients client) else []

-- ---- what always holds

-- The servers are as they are to be. Who takes lines of whom is linked to it. The room is well
-- formed and within limits; the home of each user is a server that this side knows; and each
-- registered client is a user, and its home is that client's. Not each user has a client here:
-- those of the other side come without theirs.
pub record IsSoundSide (s : ItemSetting) (w : SideState) : Type 0 where
  pub tree : IsSoundTree s.names (info_in s.settings) w.tree
  pub parents : (t p : Name) → TakesFrom s.streams t p → AreLinked w.tree.forest t p
  pub well : IsWellFormed w.hall.room
  pub within : IsWithinLimits w.hall.room
  pub at_known : HomesPass w.tree.knows w.hall.room
  pub registered : (client : ℕ) (fold : List ℕ) → registered_as w.hall.clients client ≡ Some fold
      → HaveOneHome (home_in s.homes) (home_under w.hall.room) client fold
