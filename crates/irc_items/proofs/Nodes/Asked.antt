-- What becomes of a network when one of its servers is asked for something that happens.
use Rattle.std.proofs.Common.{◌≡◌, ◌≢◌, ℕ, zero, suc, Bool, true, false, Option, Some, None, List}
use Rattle.std.proofs.Common.{[], ◌++◌, length, refl, sym, ap, subst, ◌∙◌, unwrap_or}
use Rattle.std.proofs.Common.{if◌then◌else◌}
use Rattle.std.specs.FinMap.{get}
use Rattle.std.specs.List.{slice_get, AllByRecursion}
use Rattle.std.specs.Option.{option_and_then, option_map, option_map_or}
use Rattle.irc_names.specs.Names.{IsServer}
use Rattle.irc_routes.specs.About.{About, IsAbout}
use Rattle.irc_relay.specs.Distances.{IsAmong}
use Rattle.irc_relay.specs.Links.{Link, Name}
use Rattle.irc_server.specs.Owed.{lines_to}
use Rattle.irc_server.specs.Served.{IsSetAlike, ReadEvent, ServedKeepsItsSetting, served}
use Rattle.irc_stage.specs.View.{View}
use Rattle.irc_world.specs.Stepping.{Item}
use Rattle.irc_world.specs.World.{home_in}
use Rattle.irc_follow.specs.Says.{lines_on}
use Rattle.irc_follow.specs.Tree.{index_in}
use Rattle.irc_network.specs.Network.{Progress, Network, Served, Node, all_sent_out, node_asked}
use Rattle.irc_network.specs.Network.{asked_at, serves_read_event, received_by, reply, with_reply}
use Rattle.irc_network.specs.Network.{with_node}
use Rattle.irc_items.specs.Relayed.{way_at}
use Rattle.irc_items.specs.SetUp.{setting_now, settings_of, view_at, HasPassword, IsConfigured}
use Rattle.irc_items.specs.SetUp.{IsSetUp}
use Rattle.irc_items.proofs.Common.AtRest.{beyond, nothing_received}
use Rattle.irc_items.proofs.Nodes.SentOut.{all_sent, IsSentOut}
use Rattle.irc_items.specs.Lemmas.SetUpFacts.{there}
use Rattle.irc_items.proofs.Nodes.NodeChanged.{changed_twice, set_up_after, node_set, node_there}
use Rattle.irc_items.proofs.Nodes.NodeChanged.{IsAlikeNode, IsSetUpAfter, IsNodeChanged}

-- t answered: what it put out waits behind the others on its ways, and is received behind all else
pub record IsAskedAt (t : Name) (answer : Served) (old new : Progress Network) : Type 0 where
  pub names : new.state.names ≡ old.state.names
  pub links : new.state.links ≡ old.state.links
  pub homes : new.state.homes ≡ old.state.homes
  pub items : new.state.items ≡ old.state.items
  pub taken : new.state.taken ≡ old.state.taken
  pub inboxes : length new.state.received ≡ length old.state.received
  pub settings : settings_of new.state ≡ settings_of old.state
  pub set_up : IsSetUp new.state
  pub state : view_at new.state t ≡ answer.state
  pub other_views : (u : Name) → u ≢ t → view_at new.state u ≡ view_at old.state u
  pub way : (place : ℕ) → way_at new.state t place ≡ option_map
      (λ lines. lines ++ lines_on place answer.out) (way_at old.state t place)
  pub other_ways : (u : Name) (place : ℕ) → u ≢ t
      → way_at new.state u place ≡ way_at old.state u place
  pub received : (client : ℕ) (home : Name) → home_in old.state.homes client ≡ Some home
      → received_by new.state client ≡ received_by old.state client ++ lines_to client answer.out
  pub nobody : (client : ℕ) → home_in old.state.homes client ≡ None
      → received_by new.state client ≡ []

-- what a server answers keeps what it is configured to be
pub reply_alike : ServedKeepsItsSetting → (view : View) (read_event : ReadEvent)
    → IsSetAlike view (reply view read_event).state
reply_alike kept view read_event = by (serves_read_event view read_event) refl
  where
    by : (b : Bool) → serves_read_event view read_event ≡ b
        → IsSetAlike view (reply view read_event).state
    by true e = subst (λ (r : Served). IsSetAlike view r.state)
        (sym (ap (λ b. if b then record {
          state = (served view read_event).state;
          out = (served view read_event).out;
        }
        else record { state = view; out = [] }) e)) (kept view read_event)
    by false e = subst (λ (r : Served). IsSetAlike view r.state)
        (sym (ap (λ b. if b then record {
          state = (served view read_event).state;
          out = (served view read_event).out;
        }
        else record { state = view; out = [] }) e)) (record {
          peers =
              refl;
          name = refl;
          about = refl;
        })

pub setting_alike : (old new : View) → IsSetAlike old new → setting_now new ≡ setting_now old
setting_alike old new alike i = record {
  name = alike.name i;
  about = alike.about i;
  peers = alike.peers i;
}

module _ (kept : ServedKeepsItsSetting) (old : Progress Network) (set_up : IsSetUp old.state)
    (t : Name)
    (among : IsAmong old.state.names t) (read_event : ReadEvent) where
  abbrev place : ℕ
  place = index_in old.state.names t

  abbrev view : View
  view = view_at old.state t

  abbrev answer : Served
  answer = reply view read_event

  abbrev node : Node
  node = (there old.state set_up t among).node

  abbrev replied : Node
  replied = record node { server = Some answer.state }

  abbrev mid : Progress Network
  mid = record old { state = with_node place replied old.state }

  alike_node : IsAlikeNode node replied
  alike_node = record {
    named = ap Some (reply_alike kept view read_event).name ∙ sym
        (ap (option_map (λ (v : View). v.routes.name)) (there old.state set_up t among).is_view);
    setting = ap Some (setting_alike view answer.state (reply_alike kept view read_event))
        ∙ sym (ap (option_map setting_now) (there old.state set_up t among).is_view);
  }

  first_changed : IsNodeChanged place replied old.state mid.state
  first_changed = node_set place node replied old.state mid.state
      (there old.state set_up t among).is_node alike_node refl

  sent : IsSentOut place answer.out replied mid (all_sent_out place answer.out mid)
  sent = all_sent place answer.out replied mid first_changed.is_after

  asked_is : node_asked place read_event old ≡ all_sent_out place answer.out mid
  unfolding node_asked
  asked_is =
      ap (λ o. option_map_or (asked_at place read_event old) o old)
      (there old.state set_up t among).is_node
      ∙ ap (λ o. option_map_or (λ (v : View). with_reply place old node (reply v read_event)) o old)
      (there old.state set_up t among).is_view

  changed : IsNodeChanged place sent.after old.state (all_sent_out place answer.out mid).state
  changed = changed_twice place replied sent.after old.state mid.state
      (all_sent_out place answer.out mid).state first_changed sent.changed

  configured : IsConfigured answer.state
  configured =
      let was = set_up.configured t among in
      let same = reply_alike kept view read_event in record {
        name = subst IsServer (sym same.name) was.name;
        about = subst IsAbout (sym same.about) was.about;
        told_away = ap (λ (about : About). about.tells_away) same.about ∙ was.told_away;
        passwords = subst (AllByRecursion HasPassword) (sym same.peers) was.passwords;
      }

  then_set_up : IsSetUpAfter t answer.state sent.after old.state
      (all_sent_out place answer.out mid).state
  then_set_up = set_up_after old.state (all_sent_out place answer.out mid).state set_up t among
      sent.after answer.state changed sent.server configured

  received_so : (inboxes : length old.state.received ≡ length old.state.homes)
      (client : ℕ) (home : Name) → home_in old.state.homes client ≡ Some home
      → received_by (all_sent_out place answer.out mid).state client ≡ received_by old.state client
      ++ lines_to client answer.out
  received_so inboxes zero home is = cc is
  received_so inboxes (suc earlier) home is = ap (λ o. unwrap_or o []) (sent.received earlier)
      ∙ by (slice_get old.state.received earlier) refl
    where
      by : (o : Option (List (List ℕ))) → slice_get old.state.received earlier ≡ o
          → unwrap_or (option_map (λ lines. lines ++ lines_to (suc earlier) answer.out)
          (slice_get old.state.received earlier)) []
          ≡ unwrap_or (slice_get old.state.received earlier) [] ++ lines_to (suc earlier) answer.out
      by (Some lines) e = ap
          (λ o. unwrap_or (option_map (λ lines. lines ++ lines_to (suc earlier) answer.out) o) []) e
          ∙ sym (ap (λ o. unwrap_or o [] ++ lines_to (suc earlier) answer.out) e)
      by None e =
          absurd (let no = sym (beyond old.state.received old.state.homes earlier (sym inboxes) e)
          ∙ is in cc no)

  pub asked_so : length old.state.received ≡ length old.state.homes
      → IsAskedAt t answer old (all_sent_out place answer.out mid)
  asked_so inboxes = record {
    names = changed.names;
    links = changed.links;
    homes = changed.homes;
    items = changed.items;
    taken = sent.taken;
    inboxes = sent.inboxes;
    settings = changed.settings;
    set_up = then_set_up.set_up;
    state = then_set_up.state;
    other_views = then_set_up.other_views;
    way = λ to. ap (option_and_then (λ (s : Node). get s.queues to)) then_set_up.node ∙ sent.ways to
        ∙ sym (ap (λ o. option_map (λ lines. lines ++ lines_on to answer.out)
        (option_and_then (λ (s : Node). get s.queues to) o))
        (node_there old.state set_up t among));
    other_ways = λ u to two. ap (option_and_then (λ (s : Node). get s.queues to))
        (then_set_up.other_nodes u two);
    received = received_so inboxes;
    nobody = λ client none. nothing_received (all_sent_out place answer.out mid).state client
        (sent.inboxes ∙ inboxes ∙ ap (λ (homes : List Name). length homes) (sym changed.homes))
        (ap (λ homes. home_in homes client) changed.homes ∙ none);
  }

pub asked_there : ServedKeepsItsSetting → (old : Progress Network) → IsSetUp old.state
    → length old.state.received ≡ length old.state.homes → (t : Name) → IsAmong old.state.names t
    → (read_event : ReadEvent) → IsAskedAt t (reply (view_at old.state t) read_event) old
    (node_asked (index_in old.state.names t) read_event old)
asked_there kept old set_up inboxes t among read_event =
    subst (IsAskedAt t (reply (view_at old.state t) read_event) old)
    (sym (asked_is kept old set_up t among read_event))
    (asked_so kept old set_up t among read_event inboxes)

-- servers are set up whatever else becomes of the network
pub set_up_besides : (net : Network) (links : List Link) (homes : List Name)
    (received : List (List (List ℕ))) (items : List Item) (taken : ℕ) → IsSetUp net → IsSetUp
    (record net { links = links; homes = homes; received = received; items = items; taken = taken })
set_up_besides net links homes received items taken set_up =
    record {
      named = set_up.named;
      once = set_up.once;
      few = set_up.few;
      configured = set_up.configured;
    }

-- what is not refused is served
pub reply_taken : (view : View) (read_event : ReadEvent)
    → serves_read_event view read_event ≡ true → reply view read_event
    ≡ record { state = (served view read_event).state; out = (served view read_event).out }
reply_taken view read_event taken =
    ap (λ b. if b then record {
      state = (served view read_event).state;
      out = (served view read_event).out;
    } else record { state = view; out = [] }) taken
