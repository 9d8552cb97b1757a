-- The side of a server while nothing is under way: it is the world's. The servers that are joined
-- to it are told of all that changes, they know each other, and their room and clients are those of
-- their hall.
use Rattle.std.specs.Prelude.{◌≡◌, ◌≤◌, ℕ, not, ◌&&◌, Some, None, List, ◌∷◌, map, if◌then◌else◌}
use Rattle.std.specs.List.{list_any}
use Rattle.std.specs.Option.{option_map}
use Rattle.irc_relay.specs.Distances.{EndsAreAmong, IsAmong}
use Rattle.irc_relay.specs.Links.{Name, same, Link, joined, links_without, AreLinked, IsForest}
use Rattle.irc_relay.specs.Relay.{TakesFrom}
use Rattle.irc_routes.specs.Limits.{max_servers}
use Rattle.irc_routes.specs.declared.server_row.ServerRow.{ServerRow}
use Rattle.irc_routes.specs.Known.{Known, names_behind, place_of, row_of, servers_told, token_out}
use Rattle.irc_routes.specs.Known.{IsNumbered}
use Rattle.irc_tables.specs.FoldedRows.{IsInFoldedOrder}
use Rattle.irc_world.specs.Stepping.{servers_on_side}
use Rattle.irc_world.specs.World.{World, place_at}
use Rattle.irc_world.specs.WorldHolds.{IsWorld}
use Rattle.irc_follow.specs.Tree.{index_in, shape, shape_in}
use Rattle.irc_follow.specs.SideState.{ItemSetting, SideState, about_in, info_in, number}
use Rattle.irc_follow.specs.SideState.{IsItemSetting, IsSoundSide}

abbrev pub side_state_of : ItemSetting → World → (Name → Known) → Name → SideState
side_state_of s world routes server = record {
  tree = record {
    forest = world.links;
    here = λ x. joined world.links x server;
    knows = λ x. joined world.links x server;
    routes = routes;
  };
  hall = world.hall server;
}

-- Each server is what it is configured to be, and keeps a row of each other that it is joined to,
-- and just those; what it keeps of it is as the links are. Its numbers are low, and of one that it
-- tells a neighbour of its number is the one that the neighbour keeps.
pub record AreRight (s : ItemSetting) (links : List Link) (routes : Name → Known) : Type 0 where
  pub named : (t : Name) → IsAmong s.names t → (routes t).name ≡ t
  pub about : (t : Name) → IsAmong s.names t → (routes t).about ≡ about_in s.settings t
  pub rows : (t x : Name) → IsAmong s.names t
      → option_map shape (row_of (routes t) x)
      ≡ (if joined links x t && not (same x t)
      then Some (shape_in s.names (info_in s.settings) links t x) else None)
  pub numbered : (t : Name) → IsAmong s.names t → IsNumbered (routes t)
  pub low : (t x : Name) (r : ServerRow) → IsAmong s.names t → row_of (routes t) x ≡ Some r
      → r.ours ≤ max_servers
  pub tokens : (t u x : Name) (r : ServerRow) → IsAmong s.names u → AreLinked links t u → row_of
      (routes u) x ≡ Some r → r.link ≡ index_in s.names t → token_out (routes t) x ≡ Some r.token

-- what stays is that of this network: the homes are its clients', and lines come along its links
pub record IsOfWorld (s : ItemSetting) (world : World) : Type 0 where
  pub homes : s.homes ≡ world.homes
  pub parents : (t p : Name) → TakesFrom s.streams t p → AreLinked world.links t p

-- At rest each server's side is sound, where all servers' routes are right.
abbrev pub SideAtRestIsSound : Type 0
SideAtRestIsSound = (s : ItemSetting) (world : World) (routes : Name → Known) (server : Name)
    → IsItemSetting s
    → IsOfWorld s world → IsWorld s.settings world
    → AreRight s world.links routes → IsAmong s.names server
    → IsSoundSide s (side_state_of s world routes server)

-- The servers behind a link of a server are those of that side, in order of name.
abbrev pub BehindIsThatSide : Type 0
BehindIsThatSide = (s : ItemSetting) (links : List Link) (routes : Name → Known) (t u : Name)
    → IsItemSetting s
    → IsForest links → EndsAreAmong s.names links
    → AreRight s links routes → AreLinked links t u
    → names_behind (routes t) (number s u) ≡ servers_on_side s.settings (links_without links t u) u

-- What a decision may know of a server's network is what the world has of it.
abbrev pub PlaceIsWorlds : Type 0
PlaceIsWorlds = (s : ItemSetting) (links : List Link) (routes : Name → Known) (t : Name)
    → IsItemSetting s
    → IsForest links → EndsAreAmong s.names links
    → AreRight s links routes → IsAmong s.names t
    → place_of (routes t) ≡ place_at s.settings links t

-- The neighbour on a link is told of just the servers of this side of the link, but for the one
-- that tells.
abbrev pub ToldAreThisSide : Type 0
ToldAreThisSide = (s : ItemSetting) (links : List Link) (routes : Name → Known) (t u x : Name)
    → IsForest links → EndsAreAmong s.names links
    → AreRight s links routes → AreLinked links t u
    → list_any (same x) (map (λ (r : ServerRow). r.name) (servers_told (routes t) (number s u)))
    ≡ (joined (links_without links t u) x t && not (same x t))

-- a server under how far away it is and then its name
abbrev pub by_distance : ServerRow → List ℕ × ServerRow
by_distance r = (r.distance ∷ r.name, r)

-- It is told of the nearer servers first, of two as far away of the one whose name comes first, and
-- of each once.
abbrev pub ToldByDistance : Type 0
ToldByDistance = (known : Known) (link : ℕ) → IsNumbered known
    → IsInFoldedOrder by_distance (servers_told known link)
