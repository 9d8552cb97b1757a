-- When a server is what it has to be at a moment of its side.
use Rattle.std.specs.Prelude.{◌≡◌, ℕ, true, Option, Some, None, List, [], if◌then◌else◌}
use Rattle.std.specs.Option.{option_map}
use Rattle.std.specs.FinMap.{get, retain_keys}
use Rattle.irc_room.specs.Invitations.{of_home}
use Rattle.irc_relay.specs.Distances.{IsAmong}
use Rattle.irc_relay.specs.Links.{Name, linked}
use Rattle.irc_stage.specs.View.{End, KnownPeer, View}
use Rattle.std.specs.Option.{option_map_or}
use Rattle.irc_world.specs.World.{Setting, setting_of}
use Rattle.irc_follow.specs.SideState.{ItemSetting, SideState, number, is_home_of, IsSoundSide}

-- the peers that a server is configured to have
abbrev pub peers_of : List Setting → Name → List KnownPeer
peers_of settings server =
    option_map_or (λ (own : Setting). own.peers) (setting_of settings server) []

-- the server at the other end of a link, once that has named itself
abbrev pub far_of : End → Option (List ℕ)
far_of end = end.far

-- the end of the link to x, where there is one: x has named itself just where this side knows it
abbrev pub far_end : SideState → Name → Name → Option (Option Name)
far_end w t x = if linked w.tree.forest t x then Some (if w.tree.knows x then Some x else None)
    else None

-- a number that is a server's
pub record IsNumberOf (s : ItemSetting) (k : ℕ) : Type 0 where
  pub server : Name
  pub among : IsAmong s.names server
  pub is : number s server ≡ k

-- A server of this side has the peers that it is configured to have, the servers that it is to know
-- and the ends of its links, its own clients, and the room but for invitations of other servers'
-- users.
pub record Fits (s : ItemSetting) (t : Name) (w : SideState) (v : View) : Type 0 where
  pub here : w.tree.here t ≡ true
  pub sound : IsSoundSide s w
  pub peers : v.peers ≡ peers_of s.settings t
  pub routes : v.routes ≡ w.tree.routes t
  pub ends : (x : Name) → IsAmong s.names x
      → option_map far_of (get v.ends (number s x)) ≡ far_end w t x
  pub no_others : (k : ℕ) (end : End) → get v.ends k ≡ Some end → IsNumberOf s k
  pub clients : v.clients ≡ retain_keys w.hall.clients (is_home_of s.homes t)
  pub room : v.room ≡ of_home t w.hall.room
