-- The two ends of a link are asked one after another, once the ways between them are other than
-- they were: what becomes of the network.
use Rattle.std.proofs.Common.{◌≡◌, ◌≢◌, ℕ, Option, Some, None, List, [], ◌∷◌, ◌++◌, append_assoc}
use Rattle.std.proofs.Common.{length, refl, sym, ◌∙◌, ap, subst}
use Rattle.std.specs.Option.{option_and_then, option_map}
use Rattle.irc_relay.specs.Distances.{IsAmong}
use Rattle.irc_relay.specs.Links.{Name, Link}
use Rattle.irc_server.specs.Owed.{lines_to}
use Rattle.irc_server.specs.Served.{ReadEvent, ServedKeepsItsSetting}
use Rattle.irc_world.specs.Stepping.{Item}
use Rattle.irc_world.specs.World.{home_in}
use Rattle.irc_follow.specs.Says.{lines_on}
use Rattle.irc_follow.specs.Tree.{index_in}
use Rattle.irc_network.specs.Network.{Progress, Network, Served, Node, begun, item_kept, node_asked}
use Rattle.irc_network.specs.Network.{link_places, server_place, node_changed_at, received_by}
use Rattle.irc_network.specs.Network.{reply}
use Rattle.irc_items.specs.Relayed.{way_at}
use Rattle.irc_items.specs.SetUp.{view_at, IsSetUp}
use Rattle.irc_items.proofs.Common.Step.{HasTaken}
use Rattle.irc_items.proofs.Nodes.Asked.{asked_there, set_up_besides, IsAskedAt}
use Rattle.irc_items.proofs.Nodes.SetWays.{is_set, way_changed, way_set, ChangesWay, IsWaySet}
use Rattle.irc_items.specs.Lemmas.SetUpFacts.{there}

-- Both have answered; on the way between them are these lines and what was put out there. What else
-- is put out waits behind the others.
pub record HasAskedBoth (net new : Network) (near far : Name) (lines : Option (List (List ℕ)))
    (near_answer far_answer : Served) : Type 0 where
  pub near_view : view_at new near ≡ near_answer.state
  pub far_view : view_at new far ≡ far_answer.state
  pub other_views : (u : Name) → u ≢ near → u ≢ far → view_at new u ≡ view_at net u
  pub near_way : (place : ℕ) → place ≢ index_in net.names far → way_at new near place
      ≡ option_map (λ before. before ++ lines_on place near_answer.out) (way_at net near place)
  pub far_way : (place : ℕ) → place ≢ index_in net.names near → way_at new far place
      ≡ option_map (λ before. before ++ lines_on place far_answer.out) (way_at net far place)
  pub near_to_far : way_at new near (index_in net.names far) ≡ option_map
      (λ before. before ++ lines_on (index_in net.names far) near_answer.out) lines
  pub far_to_near : way_at new far (index_in net.names near) ≡ option_map
      (λ before. before ++ lines_on (index_in net.names near) far_answer.out) lines
  pub other_ways : (u : Name) (place : ℕ) → u ≢ near → u ≢ far
      → way_at new u place ≡ way_at net u place
  pub received : (client : ℕ) (home : Name) → home_in net.homes client ≡ Some home
      → received_by new client ≡ received_by net client
      ++ (lines_to client near_answer.out ++ lines_to client far_answer.out)
  pub nobody : (client : ℕ) → home_in net.homes client ≡ None → received_by new client ≡ []

-- What is known before: between which two servers the ways change, what they are asked and what
-- they answer.
pub record WillAskBoth (net : Network) (near far : Name) (links : List Link)
    (change : ℕ → Node → Node) (lines : Option (List (List ℕ)))
    (near_does far_does : ReadEvent) (near_answer far_answer : Served) : Type 0 where
  pub changes : ChangesWay change lines
  pub stays : ServedKeepsItsSetting
  pub set_up : IsSetUp net
  pub inboxes : length net.received ≡ length net.homes
  pub near_among : IsAmong net.names near
  pub far_among : IsAmong net.names far
  pub two : near ≢ far
  pub near_is : reply (view_at net near) near_does ≡ near_answer
  pub far_is : reply (view_at net far) far_does ≡ far_answer

module _ {net : Network} {near far : Name} {links : List Link} {change : ℕ → Node → Node}
    {lines : Option (List (List ℕ))} {near_does far_does : ReadEvent}
    {near_answer far_answer : Served} (will : WillAskBoth net near far links change lines near_does
    far_does near_answer far_answer) where
  abbrev p : ℕ
  p = index_in net.names near

  abbrev q : ℕ
  q = index_in net.names far

  far_other : far ≢ near
  far_other e = will.two (sym e)

  -- ---- both ways are changed

  abbrev with_links : Network
  with_links = record net { links = links }

  pub is_set_up : IsSetUp with_links
  is_set_up = set_up_besides net links net.homes net.received net.items net.taken will.set_up

  abbrev one_way : Network
  one_way =
      way_changed change with_links near q (there with_links is_set_up near will.near_among).node

  pub near_set : IsWaySet near q lines with_links one_way
  near_set = way_set will.changes with_links is_set_up near will.near_among q

  abbrev both_ways : Network
  both_ways =
      way_changed change one_way far p (there one_way near_set.set_up far will.far_among).node

  pub far_set : IsWaySet far p lines one_way both_ways
  far_set = way_set will.changes one_way near_set.set_up far will.far_among p

  view_still : (u : Name) → view_at both_ways u ≡ view_at net u
  view_still u = far_set.views u ∙ near_set.views u

  -- ---- the near end answers, and then the far end

  abbrev one_asked : Progress Network
  one_asked = node_asked p near_does (begun both_ways)

  near_asked : IsAskedAt near (reply (view_at both_ways near) near_does) (begun both_ways) one_asked
  near_asked = asked_there will.stays
      (begun both_ways) far_set.set_up will.inboxes near will.near_among near_does

  near_reply : reply (view_at both_ways near) near_does ≡ near_answer
  near_reply = ap (λ view. reply view near_does) (view_still near) ∙ will.near_is

  abbrev pub both_asked : Progress Network
  both_asked = node_asked q far_does one_asked

  far_asked : IsAskedAt far (reply (view_at one_asked.state far) far_does) one_asked both_asked
  far_asked =
      subst (λ place. IsAskedAt far (reply (view_at one_asked.state far) far_does) one_asked
      (node_asked place far_does one_asked))
      (ap (λ names. index_in names far) near_asked.names)
      (asked_there will.stays one_asked near_asked.set_up (near_asked.inboxes ∙ will.inboxes
      ∙ ap length (sym near_asked.homes)) far
      (subst (λ names. IsAmong names far) (sym near_asked.names) will.far_among) far_does)

  far_reply : reply (view_at one_asked.state far) far_does ≡ far_answer
  far_reply = ap (λ view. reply view far_does) (near_asked.other_views far far_other
      ∙ view_still far) ∙ will.far_is

  -- ---- what is on the ways

  near_ways : (place : ℕ) → way_at both_asked.state near place ≡ option_map
      (λ before. before ++ lines_on place near_answer.out) (way_at one_way near place)
  near_ways place =
      far_asked.other_ways near place will.two
      ∙ near_asked.way place
      ∙ ap (λ (r : Served). option_map (λ before. before ++ lines_on place r.out)
      (way_at both_ways near place)) near_reply
      ∙ ap (option_map (λ before. before ++ lines_on place near_answer.out))
      (far_set.other_ways near place will.two)

  far_ways : (place : ℕ) → way_at both_asked.state far place ≡ option_map
      (λ before. before ++ lines_on place far_answer.out) (way_at both_ways far place)
  far_ways place =
      far_asked.way place
      ∙ ap (λ (r : Served). option_map (λ before. before ++ lines_on place r.out)
      (way_at one_asked.state far place)) far_reply
      ∙ ap (option_map (λ before. before ++ lines_on place far_answer.out))
      (near_asked.other_ways far place far_other)

  -- ---- what clients receive

  received_so : (client : ℕ) (home : Name) → home_in net.homes client ≡ Some home
      → received_by both_asked.state client ≡ received_by net client
      ++ (lines_to client near_answer.out ++ lines_to client far_answer.out)
  received_so client home is =
      far_asked.received client home (ap (λ homes. home_in homes client) near_asked.homes ∙ is)
      ∙ ap (λ (r : Served). received_by one_asked.state client ++ lines_to client r.out) far_reply
      ∙ ap (λ before. before ++ lines_to client far_answer.out) (near_asked.received client home is
      ∙ ap (λ (r : Served). received_by net client ++ lines_to client r.out) near_reply)
      ∙ append_assoc (received_by net client) (lines_to client near_answer.out)
      (lines_to client far_answer.out)

  same_inboxes : length both_asked.state.received ≡ length net.received
  same_inboxes = far_asked.inboxes ∙ near_asked.inboxes

  -- so it is once the network keeps the item
  pub both_taken : (item : Item)
      → HasTaken net (item_kept item both_asked).state item net.homes links
  both_taken item = record {
    names = far_asked.names ∙ near_asked.names;
    homes = far_asked.homes ∙ near_asked.homes;
    links = far_asked.links ∙ near_asked.links;
    items = ap (λ items. items ++ item ∷ []) (far_asked.items ∙ near_asked.items);
    taken = refl;
    inboxes = same_inboxes ∙ will.inboxes ∙ ap length (sym (far_asked.homes ∙ near_asked.homes));
    settings = far_asked.settings ∙ near_asked.settings ∙ far_set.settings ∙ near_set.settings;
    set_up = set_up_besides both_asked.state both_asked.state.links both_asked.state.homes
        both_asked.state.received (both_asked.state.items ++ item ∷ []) 0
        far_asked.set_up;
  }

  pub asked_both : (item : Item)
      → HasAskedBoth net (item_kept item both_asked).state near far lines near_answer far_answer
  asked_both item = record {
    near_view = far_asked.other_views near will.two ∙ near_asked.state
        ∙ ap (λ (r : Served). r.state) near_reply;
    far_view = far_asked.state ∙ ap (λ (r : Served). r.state) far_reply;
    other_views = λ u not_near not_far. far_asked.other_views u not_far
        ∙ near_asked.other_views u not_near ∙ view_still u;
    near_way = λ place two. near_ways place ∙ ap (option_map
        (λ before. before ++ lines_on place near_answer.out)) (near_set.same_way place two);
    far_way = λ place two. far_ways place
        ∙ ap (option_map (λ before. before ++ lines_on place far_answer.out))
        (far_set.same_way place two ∙ near_set.other_ways far place far_other);
    near_to_far =
        near_ways q ∙ ap (option_map (λ before. before ++ lines_on q near_answer.out)) near_set.way;
    far_to_near =
        far_ways p ∙ ap (option_map (λ before. before ++ lines_on p far_answer.out)) far_set.way;
    other_ways = λ u place not_near not_far. far_asked.other_ways u place not_far
        ∙ near_asked.other_ways u place not_near
        ∙ far_set.other_ways u place not_far
        ∙ near_set.other_ways u place not_near;
    received = received_so;
    nobody = λ client none. far_asked.nobody client
        (ap (λ homes. home_in homes client) near_asked.homes ∙ none);
  }

  -- ---- the network does so

  pub both_found : link_places net near far ≡ Some (record { near = p; far = q })
  both_found =
      ap (option_and_then (λ one. option_map (λ other. record { near = one; far = other })
      (server_place net far))) (there net will.set_up near will.near_among).place
      ∙ ap (option_map (λ other. record { near = p; far = other }))
      (there net will.set_up far will.far_among).place

  pub is_asked : node_asked q far_does (node_asked p near_does (begun
      (node_changed_at q (change p) (node_changed_at p (change q) with_links)))) ≡ both_asked
  is_asked =
      ap (λ (changed : Network). node_asked q far_does (node_asked p near_does (begun changed)))
      (ap (node_changed_at q (change p)) (is_set will.changes with_links is_set_up near
      will.near_among q) ∙ is_set will.changes one_way near_set.set_up far will.far_among p)
