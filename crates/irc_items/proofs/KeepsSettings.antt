-- What servers are configured to be stays, whatever is given to a network and whatever is
-- delivered.
use Rattle.std.proofs.Common.{◌≡◌, ℕ, Option, Some, None, List, [], ◌∷◌, refl, sym, ap, ◌∙◌}
use Rattle.std.specs.Option.{option_and_then, option_map, option_map_or}
use Rattle.irc_line.specs.Reading.{read_of}
use Rattle.irc_relay.specs.Links.{Name}
use Rattle.irc_stage.specs.Handle.{connects, goes, says}
use Rattle.irc_stage.specs.View.{View}
use Rattle.irc_server.specs.Served.{ReadEvent, ServedKeepsItsSetting, link_down, link_says}
use Rattle.irc_server.specs.Served.{link_up, of_client}
use Rattle.irc_world.specs.Stepping.{Item, connect, cut, gone, line, link}
use Rattle.irc_network.specs.Network.{Progress, LinkPlaces, Network, Served, Node, node_asked}
use Rattle.irc_network.specs.Network.{asked_at, begun, line_counted, node_asked_if, node_changed_at}
use Rattle.irc_network.specs.Network.{delivered, done_by, link_places, given, home_place, left}
use Rattle.irc_network.specs.Network.{servers_parted, servers_linked, next_client, server_place}
use Rattle.irc_network.specs.Network.{reply, node_at, taken_of, waiting, with_client, with_reply}
use Rattle.irc_network.specs.Network.{with_node, with_way, without_way}
use Rattle.irc_items.specs.Laws.{DeliveryKeepsSettings, GivenKeepsSettings}
use Rattle.irc_items.specs.SetUp.{setting_now, settings_of}
use Rattle.irc_items.proofs.Nodes.Asked.{reply_alike, setting_alike}
use Rattle.irc_items.proofs.Nodes.SentOut.{all_sent}
use Rattle.irc_items.proofs.Nodes.NodeChanged.{same_server, node_set, IsAlikeNode}

-- a node whose server is the same keeps its setting
set_alike : (place : ℕ) (node after : Node) (net : Network) → node_at net place ≡ Some node
    → IsAlikeNode node after → settings_of (with_node place after net) ≡ settings_of net
set_alike place node after net is alike =
    (node_set place node after net (with_node place after net) is alike refl).settings

changed_keeps : (place : ℕ) (change : Node → Node)
    → ((node : Node) → (change node).server ≡ node.server) → (net : Network)
    → settings_of (node_changed_at place change net) ≡ settings_of net
changed_keeps place change same net = by (node_at net place) refl
  where
    by : (o : Option Node) → node_at net place ≡ o
        → settings_of (node_changed_at place change net) ≡ settings_of net
    by None e =
        ap (λ o. settings_of (option_map_or (λ node. with_node place (change node) net) o net)) e
    by (Some node) e =
        ap (λ o. settings_of (option_map_or (λ node. with_node place (change node) net) o net)) e
        ∙ set_alike place node (change node) net e (same_server node (change node) (same node))

module _ (kept : ServedKeepsItsSetting) where
  replied_keeps : (place : ℕ) (read_event : ReadEvent) (progress : Progress Network) (node : Node)
      (view : View) → node_at progress.state place ≡ Some node → node.server ≡ Some view
      → settings_of (with_reply place progress node (reply view read_event)).state
      ≡ settings_of progress.state
  replied_keeps place read_event progress node view is server =
      (all_sent place answer.out replied mid is_there).changed.settings
      ∙ set_alike place node replied progress.state is alike
    where
      answer : Served
      answer = reply view read_event

      replied : Node
      replied = record node { server = Some (reply view read_event).state }

      mid : Progress Network
      mid = record progress {
        state = with_node place
            (record node { server = Some (reply view read_event).state }) progress.state;
      }

      alike : IsAlikeNode node (record node { server = Some (reply view read_event).state })
      alike = record {
        named = ap Some (reply_alike kept view read_event).name
            ∙ sym (ap (option_map (λ (v : View). v.routes.name)) server);
        setting = ap Some (setting_alike view (reply view read_event).state
            (reply_alike kept view read_event)) ∙ sym (ap (option_map setting_now) server);
      }

      is_there : node_at (with_node place
          (record node { server = Some (reply view read_event).state }) progress.state) place ≡ Some
          (record node { server = Some (reply view read_event).state })
      is_there = (node_set place node
          (record node { server = Some (reply view read_event).state }) progress.state
          (with_node place
          (record node { server = Some (reply view read_event).state }) progress.state)
          is alike refl).is_after

  asked_keeps : (place : ℕ) (read_event : ReadEvent) (progress : Progress Network)
      → settings_of (node_asked place read_event progress).state ≡ settings_of progress.state
  unfolding node_asked
  asked_keeps place read_event progress = by (node_at progress.state place) refl
    where
      at : (node : Node) → node_at progress.state place ≡ Some node → (o : Option View)
          → node.server ≡ o
          → settings_of (asked_at place read_event progress node).state ≡ settings_of progress.state
      at node is None e = ap (λ o. settings_of (option_map_or (λ (view : View).
          with_reply place progress node (reply view read_event)) o progress).state) e
      at node is (Some view) e =
          ap (λ o. settings_of (option_map_or (λ (view : View).
          with_reply place progress node (reply view read_event)) o progress).state) e
          ∙ replied_keeps place read_event progress node view is e

      by : (o : Option Node) → node_at progress.state place ≡ o → settings_of
          (option_map_or (asked_at place read_event progress)
          (node_at progress.state place) progress).state
          ≡ settings_of progress.state
      by None e =
          ap (λ o. settings_of
          (option_map_or (asked_at place read_event progress) o progress).state) e
      by (Some node) e =
          ap (λ o. settings_of
          (option_map_or (asked_at place read_event progress) o progress).state) e
          ∙ at node e node.server refl

  asked_of_keeps : (o : Option ℕ) (read_event : ReadEvent) (progress : Progress Network)
      → settings_of (node_asked_if o read_event progress).state ≡ settings_of progress.state
  asked_of_keeps None read_event progress = refl
  asked_of_keeps (Some place) read_event progress = asked_keeps place read_event progress

  made_keeps : (near far : Name) (net : Network) (ends : LinkPlaces)
      → settings_of (servers_linked near far net ends).state ≡ settings_of net
  made_keeps near far net ends =
      asked_keeps ends.far (link_up ends.near None) _
      ∙ asked_keeps ends.near (link_up ends.far (Some far)) _
      ∙ changed_keeps ends.far (with_way ends.near) (λ node. refl) _
      ∙ changed_keeps ends.near (with_way ends.far) (λ node. refl) _

  lost_keeps : (near far : Name) (net : Network) (ends : LinkPlaces)
      → settings_of (servers_parted near far net ends).state ≡ settings_of net
  lost_keeps near far net ends =
      asked_keeps ends.far (link_down ends.near) _ ∙ asked_keeps ends.near (link_down ends.far) _
      ∙ changed_keeps ends.far (without_way ends.near) (λ node. refl) _
      ∙ changed_keeps ends.near (without_way ends.far) (λ node. refl) _

  done_keeps : (item : Item) (net : Network)
      → settings_of (done_by item net).state ≡ settings_of net
  done_keeps (connect server host) net = asked_of_keeps (server_place net server)
      (of_client (connects (next_client net) host)) (begun (with_client server net))
  done_keeps (line client bytes) net =
      asked_of_keeps (home_place net client) (of_client (says client (read_of bytes))) (begun net)
  done_keeps (gone client) net =
      asked_of_keeps (home_place net client) (of_client (goes client)) (begun net)
  done_keeps (link near far) net = by (link_places net near far)
    where
      by : (o : Option LinkPlaces) → settings_of
          (option_map_or (servers_linked near far net) o (begun net)).state ≡ settings_of net
      by None = refl
      by (Some ends) = made_keeps near far net ends
  done_keeps (cut near far) net = by (link_places net near far)
    where
      by : (o : Option LinkPlaces) → settings_of
          (option_map_or (servers_parted near far net) o (begun net)).state ≡ settings_of net
      by None = refl
      by (Some ends) = lost_keeps near far net ends

  pub given_keeps_settings : GivenKeepsSettings
  unfolding given
  given_keeps_settings net item = done_keeps item net

  pub delivery_keeps_settings : DeliveryKeepsSettings
  unfolding delivered
  delivery_keeps_settings from to old new is = by (node_at old.state from) refl
    where
      taken : (node : Node) → node_at old.state from ≡ Some node
          → (lines : List (List ℕ)) → taken_of from to old node lines ≡ Some new
          → settings_of new.state ≡ settings_of old.state
      taken node there [] e = absurd (cc e)
      taken node there (first ∷ rest) e =
          ap (λ (o : Option (Progress Network)). option_map_or
          (λ (c : Progress Network). settings_of c.state) o
          (settings_of new.state)) (sym e)
          ∙ asked_keeps to (link_says from (read_of first))
          (record old { state = line_counted (with_node from (left to rest node) old.state) })
          ∙ set_alike from node (left to rest node) old.state there
          (same_server node (left to rest node) refl)

      by : (o : Option Node) → node_at old.state from ≡ o
          → settings_of new.state ≡ settings_of old.state
      by None e = absurd (let no = sym (ap (option_and_then
          (λ (node : Node). taken_of from to old node (waiting node to))) e) ∙ is in cc no)
      by (Some node) e = taken node e (waiting node to) (sym (ap (option_and_then
          (λ (node : Node). taken_of from to old node (waiting node to))) e) ∙ is)
