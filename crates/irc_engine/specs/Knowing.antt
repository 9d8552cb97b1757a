-- What a server and its engine know of each other: whom the server has as clients and as links, and
-- which connections the engine has.
use Rattle.std.specs.Prelude.{◌≡◌, ℕ, Bool, true, false, nat_eq, is_some, Option, Some, None}
use Rattle.std.specs.Prelude.{if◌then◌else◌}
use Rattle.irc_stage.specs.View.{View}
use Rattle.irc_server.specs.declared.event.Event.{Event}
use Rattle.irc_server.specs.declared.event.Event.TheVariants.{Connect, Line, Gone, LinkUp, LinkLine}
use Rattle.irc_server.specs.declared.event.Event.TheVariants.{LinkDown}
use Rattle.irc_server.specs.Connected.{has_client, has_link}
use Rattle.irc_engine.specs.declared.kind.ConnectionKind.{ConnectionKind}
use Rattle.irc_engine.specs.declared.kind.ConnectionKind.TheVariants.{Client, Link}
use Rattle.irc_engine.specs.declared.connection_table.Connection.{Connection}
use Rattle.irc_engine.specs.Carrying.{open_kind_at}

abbrev pub is_client : Option ConnectionKind → Bool
is_client None = false
is_client (Some Client) = true
is_client (Some Link) = false

abbrev pub is_link : Option ConnectionKind → Bool
is_link None = false
is_link (Some Client) = false
is_link (Some Link) = true

-- a server has just a client, or just a link, of this number, or nobody
abbrev pub HasAs : View → ℕ → Option ConnectionKind → Type 0
HasAs view conn kind = (has_client view conn ≡ is_client kind) × (has_link view conn ≡ is_link kind)

-- a server has neither a client nor a link
abbrev pub HasNobody : Option View → Type 0
HasNobody server = (conn : ℕ) (view : View) → server ≡ Some view → HasAs view conn None

-- Between two turns: no loss is yet to be told, and the server has just the connections that are
-- open, each as one of its kind.
abbrev pub IsSettled : Option View → (ℕ → Option Connection) → (ℕ → Option ConnectionKind) → Type 0
IsSettled server connections lost =
    (conn : ℕ) → (is_some (lost conn) ≡ false)
    × ((view : View) → server ≡ Some view → HasAs view conn (open_kind_at (connections conn)))

-- as what the server is to have a connection: it was lost, and the server has yet to be told, or it
-- is open
abbrev pub known_kind : Option Connection → Option ConnectionKind → Option ConnectionKind
known_kind connection None = open_kind_at connection
known_kind connection (Some kind) = Some kind

-- Within a turn: the server has just these, and one that was lost is not there.
pub record IsAtOne (server : Option View) (connections : ℕ → Option Connection)
    (lost : ℕ → Option ConnectionKind) : Type 0 where
  pub has : (conn : ℕ) (view : View) → server ≡ Some view
      → HasAs view conn (known_kind (connections conn) (lost conn))
  pub lost_is_gone : (conn : ℕ) → is_some (lost conn) ≡ true → connections conn ≡ None

-- an event is of one whom the server has as one of that kind; or of one who comes, and whom it does
-- not have
abbrev pub IsOf : Event → (ℕ → Option ConnectionKind) → Type 0
IsOf (Connect conn host) kinds = kinds conn ≡ None
IsOf (Line conn line) kinds = kinds conn ≡ Some Client
IsOf (Gone conn) kinds = kinds conn ≡ Some Client
IsOf (LinkUp link starts) kinds = kinds link ≡ None
IsOf (LinkLine link line) kinds = kinds link ≡ Some Link
IsOf (LinkDown link) kinds = kinds link ≡ Some Link

-- as what the server is to have a connection behind an event, but for those that it closes
abbrev pub kind_after : Event → ℕ → Option ConnectionKind → Option ConnectionKind
kind_after (Connect new host) conn was = if nat_eq new conn then Some Client else was
kind_after (Line from line) conn was = was
kind_after (Gone gone) conn was = if nat_eq gone conn then None else was
kind_after (LinkUp new starts) conn was = if nat_eq new conn then Some Link else was
kind_after (LinkLine from line) conn was = was
kind_after (LinkDown gone) conn was = if nat_eq gone conn then None else was

-- Before an event: the server has yet to be told of it, and of nothing else.
pub record IsToHear (event : Event) (server : Option View) (connections : ℕ → Option Connection)
    (lost : ℕ → Option ConnectionKind) : Type 0 where
  pub kinds : ℕ → Option ConnectionKind
  pub has : (conn : ℕ) (view : View) → server ≡ Some view → HasAs view conn (kinds conn)
  pub is_of : IsOf event kinds
  pub known : (conn : ℕ)
      → known_kind (connections conn) (lost conn) ≡ kind_after event conn (kinds conn)
  pub lost_is_gone : (conn : ℕ) → is_some (lost conn) ≡ true → connections conn ≡ None

-- by an event a connection of this kind comes
pub record IsArrival (kind : ConnectionKind) (conn : ℕ) (event : Event) : Type 0 where
  pub is_of : (kinds : ℕ → Option ConnectionKind) → kinds conn ≡ None → IsOf event kinds
  pub comes : (q : ℕ) (was : Option ConnectionKind)
      → kind_after event q was ≡ (if nat_eq conn q then Some kind else was)
