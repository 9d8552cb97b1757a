-- What holds of networks of servers, whatever the order in which lines are delivered.
use Rattle.std.specs.Prelude.{◌≡◌, ℕ, true, Some, None, List, [], ◌∷◌}
use Rattle.std.specs.List.{AllByRecursion}
use Rattle.irc_follow.specs.Tree.{index_in}
use Rattle.irc_line.specs.Lines.{IsLine}
use Rattle.irc_line.specs.Reading.{read_of}
use Rattle.irc_relay.specs.Links.{Name}
use Rattle.irc_relay.specs.Relay.{IsFront}
use Rattle.irc_server.specs.Served.{link_down, link_says, link_up, of_client, served}
use Rattle.irc_stage.specs.Handle.{ClientEvent}
use Rattle.irc_stage.specs.View.{View}
use Rattle.irc_world.specs.Refused.{refused}
use Rattle.irc_world.specs.Stepping.{Item, link}
use Rattle.irc_world.specs.WithinLimits.{IsItemWithin}
use Rattle.irc_network.specs.Network.{Progress, Network, Node, delivered, given, is_at_rest}
use Rattle.irc_network.specs.Network.{received_by, node_at, waiting}
use Rattle.irc_network.specs.Refusing.{fault_at_rest}
use Rattle.irc_items.specs.OneRoom.{IsOneRoom}
use Rattle.irc_items.specs.GoodLines.{closings}
use Rattle.irc_items.specs.Relayed.{way_between}
use Rattle.irc_items.specs.SetUp.{settings_of, view_at, IsNew}
use Rattle.irc_items.specs.Sound.{owed_now, world_now, IsSound}

abbrev pub NewNetworkIsSound : Type 0
NewNetworkIsSound = (net : Network) → IsNew net → IsSound net

-- an item that is taken
pub record IsGivenAtRest (net : Network) (item : Item) : Type 0 where
  pub at_rest : is_at_rest net ≡ true
  pub taken : fault_at_rest net item ≡ None
  pub within : IsItemWithin item

abbrev pub GivenStaysSound : Type 0
GivenStaysSound = (net : Network) (item : Item) → IsSound net → IsGivenAtRest net item
    → IsSound (given item net).state

abbrev pub DeliveryStaysSound : Type 0
DeliveryStaysSound = (from to : ℕ) (old new : Progress Network) → IsSound old.state
    → delivered from to old ≡ Some new → IsSound new.state

abbrev pub RestIsOneRoom : Type 0
RestIsOneRoom = (net : Network) → IsSound net → is_at_rest net ≡ true → IsOneRoom net

-- At every moment what a client has received is a front of what it is owed.
abbrev pub ReceivedIsFront : Type 0
ReceivedIsFront = (net : Network) (client : ℕ) → IsSound net
    → IsFront (received_by net client) (owed_now net client)

-- A network at rest refuses just what its world refuses.
abbrev pub RefusalsAreTheWorlds : Type 0
RefusalsAreTheWorlds = (net : Network) (item : Item) → IsSound net → is_at_rest net ≡ true
    → fault_at_rest net item ≡ refused (settings_of net) (world_now net) item

-- What servers are configured to be stays.
abbrev pub GivenKeepsSettings : Type 0
GivenKeepsSettings =
    (net : Network) (item : Item) → settings_of (given item net).state ≡ settings_of net

abbrev pub DeliveryKeepsSettings : Type 0
DeliveryKeepsSettings =
    (from to : ℕ) (old new : Progress Network) → delivered from to old ≡ Some new
    → settings_of new.state ≡ settings_of old.state

-- Each line that waits on a way is one: 1 to 510 bytes, none of them NUL, CR or LF. So a stream
-- that carries it with its CR LF gives it as it was put out (RFC 2812 section 2.3).
abbrev pub WaitingAreLines : Type 0
WaitingAreLines = (net : Network) (place to : ℕ) (node : Node) → IsSound net
    → node_at net place ≡ Some node → AllByRecursion IsLine (waiting node to)

-- No server closes a link upon the line that it takes next from another.
abbrev pub ClosesNoLink : Network → Type 0
ClosesNoLink net = (from to : Name) (line : List ℕ) (rest : List (List ℕ))
    → way_between net from to ≡ Some (line ∷ rest)
    → closings (served (view_at net to) (link_says (index_in net.names from) (read_of line))).out
    ≡ []

abbrev pub NoLinkIsClosed : Type 0
NoLinkIsClosed = (net : Network) → IsSound net → ClosesNoLink net

-- Two servers that are to be linked both keep their end: the one that calls, and the one that is
-- called.
pub record OpensBothEnds (net : Network) (near far : Name) : Type 0 where
  pub calls : closings (served (view_at net near) (link_up (index_in net.names far) (Some far))).out
      ≡ []
  pub waits : closings (served (view_at net far) (link_up (index_in net.names near) None)).out ≡ []

abbrev pub NewLinkIsOpen : Type 0
NewLinkIsOpen = (net : Network) (near far : Name) → IsSound net
    → fault_at_rest net (link near far) ≡ None → OpensBothEnds net near far

-- What a server's clients do closes no link, nor does the loss of another: a server closes one only
-- upon a line of it, or as it is made.
pub record OnlyLinesClose : Type 0 where
  pub by_clients : (view : View) (client_event : ClientEvent)
      → closings (served view (of_client client_event)).out ≡ []
  pub by_losses : (view : View) (link : ℕ) → closings (served view (link_down link)).out ≡ []
