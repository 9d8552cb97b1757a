-- Two networks whose links carry bytes, that are the same but for one thing that a server was asked
-- for in the second alone.
use Rattle.std.specs.Prelude.{◌≡◌, ℕ, ◌++◌, true, false, is_some, Some, length, nat_eq}
use Rattle.std.specs.FinMap.{get}
use Rattle.irc_stage.specs.Ways.{AreEnds}
use Rattle.irc_stage.specs.View.{View}
use Rattle.irc_server.specs.Served.{ReadEvent}
use Rattle.irc_network.specs.Node.{reply}
use Rattle.irc_network.specs.Network.{Network}
use Rattle.irc_pipes.specs.Pipes.{pipe_at}
use Rattle.irc_network.specs.ByteNetwork.{ByteNetwork}
use Rattle.irc_network.specs.Whole.{IsTidy, has_way}
use Rattle.irc_daemons.specs.Alike.{client_bytes}
use Rattle.irc_daemons.specs.Receiving.{bytes_received, has_come}
use Rattle.irc_daemons.proofs.Given.{pipe_behind}
use Rattle.irc_daemons.proofs.Sent.{server_at}
use Rattle.irc_daemons.proofs.Written.{bodies, with_ends}

-- The two are the same but that in the second the server at a place has been asked for something
-- more.
pub record LacksOne (place : ℕ) (read_event : ReadEvent) (less more : ByteNetwork) : Type 0 where
  pub state : View
  pub here : server_at less.network place ≡ Some (Some state)
  pub here_then : server_at more.network place ≡ Some (Some (reply state read_event).state)
  pub others : (x : ℕ) → nat_eq x place ≡ false
      → server_at more.network x ≡ server_at less.network x
  pub ways : (x y : ℕ) → has_way more.network x y ≡ has_way less.network x y
  pub pipes_there : (x y : ℕ) → nat_eq x place ≡ false
      → pipe_at more.pipes x y ≡ pipe_at less.pipes x y
  pub pipes_here : (y : ℕ) → has_way less.network place y ≡ true → pipe_at more.pipes place y
      ≡ pipe_behind (with_ends (bodies y (reply state read_event).out)) (pipe_at less.pipes place y)
  pub no_way : (y : ℕ) → has_way less.network place y ≡ false
      → pipe_at more.pipes place y ≡ pipe_at less.pipes place y
  pub names : more.network.names ≡ less.network.names
  pub homes : more.network.homes ≡ less.network.homes
  pub come : (client : ℕ) → has_come more.network client ≡ has_come less.network client
  pub inboxes : length more.network.received ≡ length less.network.received
  pub received : (client : ℕ) → has_come less.network client ≡ true
      → bytes_received more.network client ≡ bytes_received less.network client
      ++ client_bytes client (reply state read_event).out
  pub tidy_less : IsTidy less
  pub tidy_more : IsTidy more

-- no client is connected to two servers
abbrev pub AreOwn : Network → Type 0
AreOwn net = (x y client : ℕ) (one other : View) → server_at net x ≡ Some (Some one)
    → server_at net y ≡ Some (Some other)
    → is_some (get one.clients client) ≡ true → is_some (get other.clients client) ≡ true → x ≡ y

-- each server that one knows is behind a link that counts
abbrev pub AreAllEnds : Network → Type 0
AreAllEnds net = (x : ℕ) (view : View) → server_at net x ≡ Some (Some view)
    → AreEnds view.ends view.routes
