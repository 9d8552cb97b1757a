-- A network of servers as one that passes lines on along links: what each server is, what is on its
-- way from one to another, and what one client has received.
use Rattle.std.specs.Prelude.{ℕ, Bool, false, Option, List, [], map, unwrap_or, if◌then◌else◌}
use Rattle.std.specs.FinMap.{get}
use Rattle.std.specs.Option.{option_and_then, option_map_or}
use Rattle.irc_line.specs.Messages.{line_text}
use Rattle.irc_relay.specs.Links.{Name}
use Rattle.irc_relay.specs.Relay.{RelayState, Streams}
use Rattle.irc_stage.specs.View.{End, View}
use Rattle.irc_stage.specs.Ends.{is_met}
use Rattle.irc_server.specs.LinkServed.{owed_by}
use Rattle.irc_follow.specs.SideState.{ItemSetting, number, is_home_of}
use Rattle.irc_follow.specs.Tree.{index_in}
use Rattle.irc_network.specs.Network.{Network, Node, received_by, node_of}
use Rattle.irc_items.specs.SetUp.{settings_of, view_at}

-- what stays of a network while lines come from these sources
abbrev pub setting_of_item : Network → Streams → ItemSetting
setting_of_item net streams =
    record { settings = settings_of net; names = net.names; homes = net.homes; streams = streams }

-- the lines on the way from a server to a place, the oldest first; none where no way goes
abbrev pub way_at : Network → Name → ℕ → Option (List (List ℕ))
way_at net from place = option_and_then (λ (node : Node). get node.queues place) (node_of net from)

abbrev pub way_between : Network → Name → Name → Option (List (List ℕ))
way_between net from to = way_at net from (index_in net.names to)

-- what a server is to tell another, without line ends, once that has named itself
abbrev pub owed_at : ItemSetting → View → Name → End → List (List ℕ)
owed_at s view to end = if is_met end then [] else map line_text (owed_by view (number s to) to end)

abbrev pub owed_to : ItemSetting → View → Name → List (List ℕ)
owed_to s view to = option_map_or (owed_at s view to) (get view.ends (number s to)) []

-- whether another server has named itself to this one
abbrev pub is_met_with : ItemSetting → View → Name → Bool
is_met_with s view other = option_map_or is_met (get view.ends (number s other)) false

-- as one client of it sees it
abbrev pub relayed : ItemSetting → Network → ℕ → RelayState View (List ℕ) (List ℕ)
relayed s net client = record {
  state = view_at net;
  shown = λ t. if is_home_of s.homes t client then received_by net client else [];
  queue = λ x y. unwrap_or (way_between net x y) [];
  owed = λ x y. owed_to s (view_at net x) y;
}
