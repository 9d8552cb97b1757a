-- Of a network that is as daemons: no client is at two servers, and each server that one knows is
-- behind a link that counts.
use Rattle.std.proofs.Common.{◌≡◌, ℕ, true, is_some, Option, Some, None, List, refl, sym, ◌∙◌, ap}
use Rattle.std.proofs.Common.{subst, option_map}
use Rattle.std.specs.FinMap.{get}
use Rattle.std.specs.List.{slice_get}
use Rattle.std.specs.Option.{option_and_then}
use Rattle.std.proofs.lemmas.Option.{same_Some}
use Rattle.irc_relay.specs.Links.{Name}
use Rattle.irc_stage.specs.declared.clients.Client.{Client}
use Rattle.irc_stage.specs.View.{View}
use Rattle.irc_world.specs.World.{home_in}
use Rattle.irc_network.specs.Network.{Node, node_at}
use Rattle.irc_network.specs.ByteNetwork.{ByteNetwork}
use Rattle.irc_engine.specs.EngineView.{EngineView}
use Rattle.irc_daemons.specs.Alike.{AreServersAlike, AreServersAlikeIf, Numbers}
use Rattle.irc_daemons.specs.AsBytes.{IsServerIf, numbers_at}
use Rattle.irc_daemons.specs.AsNetwork.{IsAsNetwork}
use Rattle.irc_daemons.specs.Daemons.{Daemons}
use Rattle.irc_daemons.proofs.LackingWords.{AreAllEnds, AreOwn}
use Rattle.irc_daemons.proofs.Sent.{server_at}
use Rattle.irc_daemons.proofs.Silence.{other_ends}

-- the engine's server that is alike
pub record HasAlike (numbers : Numbers) (view : View) : Type 0 where
  pub own : View
  pub alike : AreServersAlike numbers own view

alike_of : (numbers : Numbers) (server : Option View) (view : View)
    → AreServersAlikeIf numbers server (Some view) → HasAlike numbers view
alike_of numbers None view is = absurd is
alike_of numbers (Some own) view is = record { own = own; alike = is }

alike_if : {W : Type 0} (numbers : Numbers) (engine : Option (EngineView W))
    (node : Option Node) (view : View) → IsServerIf numbers engine node
    → option_map (λ (s : Node). s.server) node ≡ Some (Some view) → HasAlike numbers view
alike_if numbers engine None view is none = cc none
alike_if numbers None (Some node) view is some = absurd is
alike_if numbers (Some engine) (Some node) view is some =
    alike_of numbers engine.now.server view
    (subst (λ o. AreServersAlikeIf numbers engine.now.server o)
    (same_Some node.server (Some view) some) is.servers)

module _ {W : Type 0} (names : List Name) (daemons : Daemons W) (net : ByteNetwork)
    (same : IsAsNetwork names daemons net) where
  pub alike_at : (x : ℕ) (view : View) → server_at net.network x ≡ Some (Some view)
      → HasAlike (numbers_at daemons x) view
  alike_at x view at = alike_if (numbers_at daemons x) (slice_get daemons.engines x)
      (node_at net.network x) view (same.as_bytes.servers x) at

  pub all_ends : AreAllEnds net.network
  all_ends x view at =
      let it = alike_at x view at in other_ends (numbers_at daemons x) it.own view it.alike

  -- a client of a server has a seat there
  record HasSeat (x client : ℕ) : Type 0 where
    conn : ℕ
    seat : daemons.seats x client ≡ Some conn

  seat_of : (x client : ℕ) (clients : ℕ → Option Client) (o : Option ℕ) → daemons.seats x client ≡ o
      → is_some (option_and_then clients o) ≡ true → HasSeat x client
  seat_of x client clients None at there = cc there
  seat_of x client clients (Some conn) at there = record { conn = conn; seat = at }

  has_seat : (x client : ℕ) (view : View) → server_at net.network x ≡ Some (Some view)
      → is_some (get view.clients client) ≡ true → HasSeat x client
  has_seat x client view at there =
      let it = alike_at x view at in
      seat_of x client (get it.own.clients) (daemons.seats x client) refl
      (ap is_some (sym (it.alike.alike.clients client)) ∙ there)

  pub are_own : ((x y : ℕ) (name : Name) → slice_get names x ≡ Some name
      → slice_get names y ≡ Some name → x ≡ y) → AreOwn net.network
  are_own once x y client one other at there is_one is_other =
      let here = has_seat x client one at is_one in
      let away = has_seat y client other there is_other in
      by (home_in net.network.homes client) (same.are_seated.home x client here.conn here.seat)
      (same.are_seated.home y client away.conn away.seat)
      (same.are_seated.seat x client here.conn here.seat)
    where
      by : (o : Option Name) → slice_get names x ≡ o → slice_get names y ≡ o
          → is_some o ≡ true → x ≡ y
      by None one_home other_home is = cc is
      by (Some name) one_home other_home is = once x y name one_home other_home
