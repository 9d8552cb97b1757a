-- Which links a still network lets be made and cut, and who is there.
use Rattle.std.proofs.Common.{◌≡◌, ℕ, zero, suc, Bool, true, false, not, ◌&&◌, ◌||◌, ◌⊎◌, inl, inr}
use Rattle.std.proofs.Common.{is_some, Some, None, List, [], ◌∷◌, nat_eq, refl, sym, ◌∙◌, ap, subst}
use Rattle.std.proofs.Common.{option_map, if◌then◌else◌}
use Rattle.std.proofs.lemmas.Bool.{and_parts, eqb-true, or_cases}
use Rattle.std.specs.FinMap.{get}
use Rattle.std.specs.List.{slice_get}
use Rattle.std.specs.Option.{option_and_then}
use Rattle.std.proofs.lemmas.Option.{same_Some}
use Rattle.irc_relay.specs.Links.{AreJoined, Link, Name, has_ends, joined, part, same}
use Rattle.irc_relay.specs.Links.{linked as are_linked}
use Rattle.irc_relay.specs.Lemmas.TellingNames.{Telling, alike, same_when, tell, unlike}
use Rattle.irc_stage.specs.View.{View}
use Rattle.irc_world.specs.Refused.{link_refused, no_such_server, not_linked, refused}
use Rattle.irc_world.specs.Stepping.{cut, link}
use Rattle.irc_network.specs.Network.{Network, Node, is_at_rest, server_place, node_at}
use Rattle.irc_network.specs.Refusing.{are_peers, fault_at_rest, link_fault, meeting_fault}
use Rattle.irc_network.specs.Behind.{Ahead, nodes_behind}
use Rattle.irc_network.specs.ByteNetwork.{ByteNetwork, is_byte_rest, lines_ahead, net_in_lines}
use Rattle.irc_network.specs.Whole.{RestAsLines, has_way}
use Rattle.irc_items.specs.Laws.{RefusalsAreTheWorlds}
use Rattle.irc_items.specs.Relayed.{way_at}
use Rattle.irc_items.specs.SetUp.{IsSetUp, settings_of, view_at}
use Rattle.irc_items.specs.Sound.{IsSound, world_now}
use Rattle.irc_items.specs.Lemmas.SetUpFacts.{among_at, only_place, there, viewed}
use Rattle.irc_net.specs.Faults.{item_fault}
use Rattle.irc_net.specs.OneRoom.{IsKeptSound}
use Rattle.irc_daemons.proofs.Asked.{none_refused}
use Rattle.irc_daemons.proofs.Sent.{server_at}

-- ---- places

-- a server is at the place of its name
pub placed_by : (net : Network) → IsSetUp net → (x : ℕ) (name : Name)
    → slice_get net.names x ≡ Some name → server_place net name ≡ Some x
placed_by net set_up x name is =
    let among = among_at net.names name x is in
    (there net set_up name among).place
    ∙ ap Some (only_place net.names name x (set_up.once name among) is)

-- ---- each server is there

-- a server that is there, whatever is on its way
pub record IsServing (net : Network) (x : ℕ) : Type 0 where
  pub state : View
  pub at : server_at net x ≡ Some (Some state)

server_behind : (ahead : Ahead) (nodes : List Node) (x : ℕ)
    → option_map (λ (s : Node). s.server) (slice_get (nodes_behind ahead nodes) x)
    ≡ option_map (λ (s : Node). s.server) (slice_get nodes x)
server_behind ahead [] x = refl
server_behind ahead (node ∷ nodes) zero = refl
server_behind ahead (node ∷ nodes) (suc x) = server_behind (λ place. ahead (suc place)) nodes x

pub serves_there : (net : ByteNetwork) → IsKeptSound net → (x : ℕ) (name : Name)
    → slice_get net.network.names x ≡ Some name → IsServing net.network x
serves_there net kept x name is =
    let among = among_at net.network.names name x is in
    let here = there (net_in_lines net) kept.sound.set_up name among in
    let place = only_place net.network.names name x (kept.sound.set_up.once name among) is in
    record {
      state = view_at (net_in_lines net) name;
      at =
          sym (server_behind (lines_ahead net.pipes) net.network.nodes x)
          ∙ ap (server_at (net_in_lines net)) (sym place)
          ∙ ap (option_map (λ (s : Node). s.server)) here.is_node
          ∙ ap Some here.is_view;
    }

-- ---- who is linked is joined

pub names_same : (a b : Name) → same a b ≡ true → a ≡ b
names_same a b is = by (tell a b)
  where
    by : Telling a b → a ≡ b
    by (alike one e) = e
    by (unlike two other) = cc (sym two ∙ is)

ends_joined : (l : Link) (links : List Link) → AreJoined (l ∷ links) l.near l.far
unfolding part
ends_joined l links =
    by (same (part links l.near) (part links l.far))
    ∙ ap (λ b. if b then part links l.near else part links l.far)
    (sym (same_when (part links l.far) (part links l.far) refl))
  where
    by : (b : Bool) → (if b then part links l.near else part links l.near) ≡ part links l.near
    by true = refl
    by false = refl

joined_then : (l : Link) (links : List Link) (s t : Name) → AreJoined links s t
    → AreJoined (l ∷ links) s t
unfolding part
joined_then l links s t is = ap (λ p. if same p (part links l.far) then part links l.near else p) is

joined_by : (l : Link) (links : List Link) (s t : Name) → has_ends l s t ≡ true
    → AreJoined (l ∷ links) s t
joined_by l links s t is =
    by (or_cases (same l.near s && same l.far t) (same l.near t && same l.far s) is)
  where
    forth : same l.near s ≡ true → same l.far t ≡ true → AreJoined (l ∷ links) s t
    forth one other =
        ap (part (l ∷ links)) (sym (names_same l.near s one)) ∙ ends_joined l links
        ∙ ap (part (l ∷ links)) (names_same l.far t other)

    back : same l.near t ≡ true → same l.far s ≡ true → AreJoined (l ∷ links) s t
    back one other =
        ap (part (l ∷ links)) (sym (names_same l.far s other)) ∙ sym (ends_joined l links)
        ∙ ap (part (l ∷ links)) (names_same l.near t one)

    by : ((same l.near s && same l.far t) ≡ true) ⊎ ((same l.near t && same l.far s) ≡ true)
        → AreJoined (l ∷ links) s t
    by (inl both) =
        let parts = and_parts (same l.near s) (same l.far t) both in forth parts.0 parts.1
    by (inr both) =
        let parts = and_parts (same l.near t) (same l.far s) both in back parts.0 parts.1

pub linked_joins : (links : List Link) (s t : Name) → are_linked links s t ≡ true
    → AreJoined links s t
linked_joins [] s t is = cc is
linked_joins (l ∷ links) s t is =
    by (or_cases (has_ends l s t) (are_linked links s t) is) (linked_joins links s t)
  where
    by : (has_ends l s t ≡ true) ⊎ (are_linked links s t ≡ true)
        → (are_linked links s t ≡ true → AreJoined links s t) → AreJoined (l ∷ links) s t
    by (inl ends) rest = joined_by l links s t ends
    by (inr later) rest = joined_then l links s t (rest later)

-- ---- at rest

-- a link may be made
pub record MayLink (net : ByteNetwork) (near far : Name) (n f : ℕ) : Type 0 where
  pub taken : item_fault net (link near far) ≡ None
  pub no_way : has_way net.network n f ≡ false
  pub no_way_back : has_way net.network f n ≡ false
  pub apart : nat_eq n f ≡ false

module _ (rest_law : RestAsLines) (net : ByteNetwork) (kept : IsKeptSound net)
    (rest : is_byte_rest net ≡ true) where
  -- it is as one whose links carry lines
  pub sound_at_rest : IsSound net.network
  sound_at_rest = subst IsSound (rest_law net kept.whole rest).as_lines kept.sound

  pub no_line_waits : is_at_rest net.network ≡ true
  no_line_waits = let as_lines =
      rest_law net kept.whole rest in sym (ap is_at_rest as_lines.as_lines) ∙ as_lines.at_rest

  pub way_is : (near far : Name) (n f : ℕ) → slice_get net.network.names n ≡ Some near
      → slice_get net.network.names f ≡ Some far
      → has_way net.network n f ≡ are_linked net.network.links near far
  way_is near far n f near_at far_at =
      sym
      (ap (λ k. is_some (way_at net.network near k))
      (only_place net.network.names far f
      (sound_at_rest.set_up.once far (among_at net.network.names far f far_at)) far_at)
      ∙ ap (λ o. is_some (option_and_then (λ (s : Node). get s.queues f)
      (option_and_then (node_at net.network) o)))
      (placed_by net.network sound_at_rest.set_up n near near_at))
      ∙ sound_at_rest.ways near far

  module _ (near far : Name) (n f : ℕ) (near_at : slice_get net.network.names n ≡ Some near)
      (far_at : slice_get net.network.names f ≡ Some far) where
    near_place : server_place net.network near ≡ Some n
    near_place = placed_by net.network sound_at_rest.set_up n near near_at

    far_place : server_place net.network far ≡ Some f
    far_place = placed_by net.network sound_at_rest.set_up f far far_at

    -- what is linked may be cut
    pub may_cut : has_way net.network n f ≡ true → item_fault net (cut near far) ≡ None
    may_cut way =
        let is_linked : are_linked net.network.links near far ≡ true =
        sym (way_is near far n f near_at far_at) ∙ way in
        none_refused net (cut near far) rest
        (λ i. if not (is_some (near_place i)) || not (is_some (far_place i))
        then Some no_such_server
        else (if is_linked i then None else Some not_linked))

    not_joined : meeting_fault net.network near far (view_at net.network near)
        (view_at net.network far) ≡ None → joined net.network.links near far ≡ false
    not_joined none =
        by (joined net.network.links near far)
        (not (are_peers near far (view_at net.network near) (view_at net.network far))) none
      where
        by : (b c : Bool) → (if b || c then Some link_refused else None) ≡ None → b ≡ false
        by true c is = cc is
        by false c is = refl

    apart_of : joined net.network.links near far ≡ false → nat_eq n f ≡ false
    apart_of parted = by (nat_eq n f) refl
      where
        by : (b : Bool) → nat_eq n f ≡ b → b ≡ false
        by true one =
            let is : near ≡ far = same_Some near far
            (sym near_at ∙ ap (slice_get net.network.names) (eqb-true n f one) ∙ far_at) in
            cc (sym parted ∙ same_when (part net.network.links near) (part net.network.links far)
            (ap (part net.network.links) is))
        by false two = refl

    -- between parts no way is
    no_way_of : joined net.network.links near far ≡ false → has_way net.network n f ≡ false
    no_way_of parted = by (has_way net.network n f) refl
      where
        by : (b : Bool) → has_way net.network n f ≡ b → b ≡ false
        by true way =
            cc (sym parted
            ∙ same_when (part net.network.links near) (part net.network.links far)
            (linked_joins net.network.links near far (sym (way_is near far n f near_at far_at)
            ∙ way)))
        by false none = refl

    no_way_back_of : joined net.network.links near far ≡ false → has_way net.network f n ≡ false
    no_way_back_of parted = by (has_way net.network f n) refl
      where
        by : (b : Bool) → has_way net.network f n ≡ b → b ≡ false
        by true way =
            cc (sym parted
            ∙ same_when (part net.network.links near) (part net.network.links far)
            (sym (linked_joins net.network.links far near (sym (way_is far near f n far_at near_at)
            ∙ way))))
        by false none = refl

    -- what the world of the items does not refuse
    pub may_link : RefusalsAreTheWorlds → refused (settings_of net.network) (world_now net.network)
        (link near far) ≡ None → MayLink net near far n f
    may_link refusals_law none =
        let set_up = sound_at_rest.set_up in
        let fault : fault_at_rest net.network (link near far) ≡ None =
        refusals_law net.network (link near far) sound_at_rest no_line_waits ∙ none in
        let near_view =
        viewed net.network set_up near (among_at net.network.names near n near_at) in
        let far_view = viewed net.network set_up far (among_at net.network.names far f far_at) in
        let parted =
        not_joined (sym (λ i. link_fault net.network near far (near_view i) (far_view i))
        ∙ fault) in record {
          taken = none_refused net (link near far) rest fault;
          no_way = no_way_of parted;
          no_way_back = no_way_back_of parted;
          apart = apart_of parted;
        }
