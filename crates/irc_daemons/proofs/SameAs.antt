-- Networks whose links carry bytes and that agree at each place: daemons that are as the one are as
-- the other.
use Rattle.std.proofs.Common.{◌≡◌, ℕ, zero, suc, false, is_some, Option, Some, None, List, []}
use Rattle.std.proofs.Common.{length, refl, sym, ◌∙◌, ap, subst, option_map, unwrap_or}
use Rattle.std.specs.List.{flat_map, slice_get}
use Rattle.std.proofs.lemmas.Option.{same_Some}
use Rattle.irc_relay.specs.Links.{Name}
use Rattle.irc_relay.specs.Relay.{IsFront}
use Rattle.irc_world.specs.World.{home_in}
use Rattle.irc_network.specs.Network.{Network, Node, node_at}
use Rattle.irc_pipes.specs.Pipes.{pipe_at}
use Rattle.irc_network.specs.ByteNetwork.{ByteNetwork}
use Rattle.irc_network.specs.Whole.{IsTidy, has_way}
use Rattle.irc_engine.specs.EngineView.{EngineView}
use Rattle.irc_daemons.specs.Alike.{AreServersAlikeIf, Numbers}
use Rattle.irc_daemons.specs.AsBytes.{IsAsBytes, IsServerIf, numbers_at}
use Rattle.irc_daemons.specs.AsNetwork.{AreReceived, AreSeated, IsAsNetwork}
use Rattle.irc_daemons.specs.Daemons.{Daemons}
use Rattle.irc_daemons.specs.Receiving.{bytes_received, has_come}
use Rattle.irc_daemons.proofs.Sent.{Lines, server_at}

-- the two agree, place by place and client by client
pub record IsSameAs (one other : ByteNetwork) : Type 0 where
  pub servers : (x : ℕ) → server_at other.network x ≡ server_at one.network x
  pub ways : (x y : ℕ) → has_way other.network x y ≡ has_way one.network x y
  pub pipes : (x y : ℕ) → pipe_at other.pipes x y ≡ pipe_at one.pipes x y
  pub names : other.network.names ≡ one.network.names
  pub homes : other.network.homes ≡ one.network.homes
  pub come : (client : ℕ) → has_come other.network client ≡ has_come one.network client
  pub inboxes : length other.network.received ≡ length one.network.received
  pub bytes : (client : ℕ) → bytes_received other.network client ≡ bytes_received one.network client
  pub tidy : IsTidy other

-- who has not come has received nothing
pub none_received : (net : Network) (client : ℕ) → has_come net client ≡ false
    → bytes_received net client ≡ []
none_received net zero none = refl
none_received net (suc earlier) none = by (slice_get net.received earlier) refl
  where
    by : (o : Option Lines) → slice_get net.received earlier ≡ o
        → bytes_received net (suc earlier) ≡ []
    by None is = ap (λ p. flat_map (λ text. text) (unwrap_or p [])) is
    by (Some lines) is = cc (sym (ap is_some is) ∙ none)

-- ---- daemons that are as one of them

server_if : {W : Type 0} (numbers : Numbers) (engine : Option (EngineView W))
    (one other : Option Node) → option_map (λ (node : Node). node.server) other
    ≡ option_map (λ (node : Node). node.server) one → IsServerIf numbers engine one
    → IsServerIf numbers engine other
server_if numbers None None None same is = tt
server_if numbers None None (Some other) same is = cc same
server_if numbers None (Some one) other same is = absurd is
server_if numbers (Some engine) None other same is = absurd is
server_if numbers (Some engine) (Some one) None same is = cc same
server_if numbers (Some engine) (Some one) (Some other) same is = record {
  in_order = is.in_order;
  framers = is.framers;
  servers = subst (λ server. AreServersAlikeIf numbers engine.now.server server)
      (sym (same_Some other.server one.server same)) is.servers;
}

module _ {W : Type 0} (names : List Name) (daemons : Daemons W) (one other : ByteNetwork)
    (same : IsSameAs one other)
    (is : IsAsNetwork names daemons one)
  where
    bytes_then : IsAsBytes daemons other
    bytes_then = record {
      servers = λ place.
          server_if (numbers_at daemons place) (slice_get daemons.engines place)
          (node_at one.network place) (node_at other.network place)
          (same.servers place) (is.as_bytes.servers place);
      ways = λ from to. same.ways from to ∙ is.as_bytes.ways from to;
      pipes = λ from to. same.pipes from to ∙ is.as_bytes.pipes from to;
      tidy = same.tidy;
    }

    seated_then : AreSeated names daemons other
    seated_then = record {
      names_are = is.are_seated.names_are ∙ sym same.names;
      came = is.are_seated.came ∙ ap (λ (homes : List Name). length homes) (sym same.homes);
      inboxes = same.inboxes ∙ is.are_seated.inboxes
          ∙ ap (λ (homes : List Name). length homes) (sym same.homes);
      home = λ place client conn seat. is.are_seated.home place client conn seat
          ∙ ap (λ homes. home_in homes client) (sym same.homes);
      seat = λ place client conn seat. ap (λ homes. is_some (home_in homes client)) same.homes
          ∙ is.are_seated.seat place client conn seat;
    }

    received_then : AreReceived daemons other
    received_then = record {
      there = λ place client conn seat there. same.bytes client
          ∙ is.are_received.there place client conn seat there;
      front = λ client. subst (IsFront (daemons.written client)) (sym (same.bytes client))
          (is.are_received.front client);
    }

    pub as_network_of : IsAsNetwork names daemons other
    as_network_of = record {
      are_joined = is.are_joined;
      as_bytes = bytes_then;
      clients_open = is.clients_open;
      are_seated = seated_then;
      are_received = received_then;
    }
