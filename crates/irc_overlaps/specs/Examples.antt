-- A network that begins, of which one server calls another, to which a client comes meanwhile; and
-- one that calls a server which is no peer of it.
use Rattle.std.specs.Prelude.{◌≡◌, Some, None, List, [], ◌∷◌, ◌++◌, codes}
use Rattle.std.specs.FinMap.{empty}
use Rattle.irc_line.specs.Bytes.{crlf}
use Rattle.irc_batch.specs.declared.close_reason.CloseReason.TheVariants.{UnknownPeer}
use Rattle.irc_relay.specs.Links.{Name}
use Rattle.irc_room.specs.Laws.{no_room}
use Rattle.irc_routes.specs.About.{says}
use Rattle.irc_routes.specs.Known.{alone_known}
use Rattle.irc_server.specs.declared.event.Event.TheVariants.{Connect}
use Rattle.irc_stage.specs.View.{KnownPeer, View}
use Rattle.irc_overlaps.specs.Networks.{Net, AreOneLink, end_at}
use Rattle.irc_overlaps.specs.Rest.{IsEndQuiet, IsNew}
use Rattle.irc_overlaps.specs.Steps.{Run, Step, given, made}

abbrev pub a_net : Name
a_net = codes "a.net"

abbrev pub b_net : Name
b_net = codes "b.net"

-- a server that has these two for peers
abbrev pub peer : Name → KnownPeer
peer name = record { name = name; password = codes "pw" }

abbrev pub new_server : Name → View
new_server s = record {
  routes = alone_known s (says (codes "Server") (codes "today"));
  peers = peer a_net ∷ peer b_net ∷ [];
  ends = empty;
  clients = empty;
  room = no_room;
}

abbrev pub start : Net
start = record {
  links = [];
  layer = λ s. record { server = Some (new_server s); ends = λ n. None; plain = [] };
  other = λ s n. None;
  coming = λ s n. [];
  told = λ s conn. [];
  closings = [];
}

-- a.net calls b.net, by 3 and 4; before its lines have come a client connects to b.net, as 1
abbrev pub calls : List Step
calls = made a_net 3 b_net 4 ∷ given b_net (Connect 1 (codes "h")) ∷ []

pub record CallIsOnItsWay : Type 0 where
  pub begins : IsNew start
  pub net : Net
  pub run : Run calls start net
  pub linked : net.links ≡ record { near = a_net; far = b_net } ∷ []
  pub are_one : AreOneLink net.other a_net 3 b_net 4
  pub coming : net.coming b_net 4
      ≡ (codes "PASS pw 0210010001 TREE| away1 exact1" ++ crlf)
      ∷ (codes "SERVER a.net 1 1 :Server" ++ crlf) ∷ []
  pub none_back : net.coming a_net 3 ≡ []

-- a.net calls x.net, of which it does not know: it closes its end, and x.net has not been told
abbrev pub x_net : Name
x_net = codes "x.net"

abbrev pub wrong_call : List Step
wrong_call = made a_net 3 x_net 4 ∷ []

pub record CallIsClosed : Type 0 where
  pub net : Net
  pub run : Run wrong_call start net
  pub no_link : net.links ≡ []
  pub near_gone : net.other a_net 3 ≡ None
  pub far_there : net.other x_net 4 ≡ Some (end_at a_net 3)
  pub not_quiet : IsEndQuiet net x_net 4 → ⊥
  pub closing : net.closings
      ≡ record { server = a_net; link = 3; far = Some (end_at x_net 4); reason = UnknownPeer } ∷ []
