-- A small network, by example: who is refused what.
use Rattle.std.specs.Prelude.{◌≡◌, ℕ, Some, List, [], ◌∷◌, codes}
use Rattle.irc_relay.specs.Links.{Name}
use Rattle.irc_routes.specs.About.{says}
use Rattle.irc_stage.specs.View.{KnownPeer}
use Rattle.irc_world.specs.World.{Setting, new_world}
use Rattle.irc_world.specs.Stepping.{connect, line, gone, link, cut}
use Rattle.irc_world.specs.Refused.{refused, no_such_server, no_such_client, not_linked}
use Rattle.irc_world.specs.Refused.{link_refused}

abbrev pub with_peers : Name → List KnownPeer → Setting
with_peers name peers =
    record { name = name; about = says (codes "A server") (codes "today"); peers = peers }

abbrev pub peer : Name → List ℕ → KnownPeer
peer name password = record { name = name; password = password }

-- a.net and b.net are peers of each other, with one password; c.net keeps another for a.net than
-- a.net for it, and b.net, which is a peer of c.net, does not have it as one
abbrev pub three_servers : List Setting
three_servers =
    with_peers (codes "a.net")
    (peer (codes "b.net") (codes "pw") ∷ peer (codes "c.net") (codes "pw") ∷ [])
    ∷ with_peers (codes "b.net") (peer (codes "a.net") (codes "pw") ∷ [])
    ∷ with_peers (codes "c.net")
    (peer (codes "a.net") (codes "other") ∷ peer (codes "b.net") (codes "pw") ∷ [])
    ∷ []

-- Nobody can connect to a server that is not there, and none can be linked to it; who has not
-- connected can say nothing, nor be gone; what is not linked cannot be cut; and a server is not
-- linked to itself, nor to one that keeps another password for it, nor to one that is no peer,
-- where either of them is none of the other.
pub record WhoIsRefused : Type 0 where
  pub nowhere : refused three_servers new_world (connect (codes "x.net") (codes "h"))
      ≡ Some no_such_server
  pub to_nowhere : refused three_servers new_world (link (codes "a.net") (codes "x.net"))
      ≡ Some no_such_server
  pub nobody : refused three_servers new_world (line 1 (codes "NICK al")) ≡ Some no_such_client
  pub nobody_left : refused three_servers new_world (gone 1) ≡ Some no_such_client
  pub apart : refused three_servers new_world (cut (codes "a.net") (codes "b.net"))
      ≡ Some not_linked
  pub to_itself : refused three_servers new_world (link (codes "a.net") (codes "a.net"))
      ≡ Some link_refused
  pub other_password : refused three_servers new_world (link (codes "a.net") (codes "c.net"))
      ≡ Some link_refused
  pub no_peer : refused three_servers new_world (link (codes "b.net") (codes "c.net"))
      ≡ Some link_refused
  pub no_peer_back : refused three_servers new_world (link (codes "c.net") (codes "b.net"))
      ≡ Some link_refused
