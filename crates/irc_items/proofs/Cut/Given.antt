-- What a network is when a link has just been lost.
use Rattle.std.proofs.Common.{◌≡◌, ◌≢◌, ℕ, Bool, true, false, not, ◌||◌, Option, Some, None}
use Rattle.std.proofs.Common.{is_some, [], ◌++◌, refl, sym, ◌∙◌, ap, subst, if◌then◌else◌, List}
use Rattle.std.proofs.Common.{inl, inr}
use Rattle.std.specs.FinMap.{get}
use Rattle.std.specs.Option.{option_map, option_map_or}
use Rattle.irc_relay.specs.Distances.{IsAmong}
use Rattle.irc_relay.specs.Links.{Name, joined, linked, links_without, AreLinked, IsForest, Link}
use Rattle.irc_relay.specs.Links.{HasEnds}
use Rattle.irc_relay.specs.Lemmas.NextHops.{linked_back, linked_other}
use Rattle.irc_relay.specs.Lemmas.LinkTakenOut.{tests_tell}
use Rattle.irc_server.specs.Owed.{lines_to}
use Rattle.irc_server.specs.Served.{Served, ServedKeepsItsSetting, link_down, served}
use Rattle.irc_world.specs.Refused.{no_such_server, not_linked}
use Rattle.irc_world.specs.Stepping.{cut}
use Rattle.irc_world.specs.World.{home_in}
use Rattle.irc_follow.specs.Fits.{far_of}
use Rattle.irc_follow.specs.Says.{lines_on}
use Rattle.irc_follow.specs.Tree.{index_in}
use Rattle.irc_network.specs.Network.{Progress, Network, begun, given, item_kept}
use Rattle.irc_network.specs.Network.{servers_parted, received_by, reply, without_way}
use Rattle.irc_network.specs.Refusing.{fault_at_rest, is_server}
use Rattle.irc_items.specs.OneRoom.{IsOneRoom}
use Rattle.irc_items.specs.Relayed.{way_at}
use Rattle.irc_items.specs.SetUp.{view_at, IsSetUp}
use Rattle.irc_items.specs.Sound.{world_now, IsSound}
use Rattle.irc_items.proofs.Common.Ends.{both_ends, other_end}
use Rattle.irc_items.proofs.Common.Step.{HasTaken}
use Rattle.irc_items.proofs.Nodes.Asked.{reply_taken}
use Rattle.irc_items.proofs.Nodes.BothAsked.{asked_both, both_asked, both_found, both_taken}
use Rattle.irc_items.proofs.Nodes.BothAsked.{is_asked, HasAskedBoth, WillAskBoth}
use Rattle.irc_items.proofs.Nodes.SetWays.{closes}
use Rattle.irc_items.specs.Lemmas.SetUpFacts.{placed_if}

-- two servers whose link may be lost
pub record IsParting (net : Network) (near far : Name) : Type 0 where
  pub near_among : IsAmong net.names near
  pub far_among : IsAmong net.names far
  pub linked : AreLinked net.links near far

-- what the server at one end does when the link is lost
abbrev pub parted_at : Network → Name → Name → Served
parted_at net t other = served (view_at net t) (link_down (index_in net.names other))

-- Both ends have lost the link and done what there is to do; the way between them is gone. Nothing
-- else has changed.
pub record IsCut (net new : Network) (near far : Name) : Type 0 where
  pub taken : HasTaken net new (cut near far) net.homes (links_without net.links near far)
  pub state : (a b : Name) → HasEnds (record { near = near; far = far }) a b
      → view_at new a ≡ (parted_at net a b).state
  pub other_views : (u : Name) → u ≢ near → u ≢ far → view_at new u ≡ view_at net u
  pub way : (a b : Name) → HasEnds (record { near = near; far = far }) a b
      → (place : ℕ) → place ≢ index_in net.names b → way_at new a place
      ≡ option_map (λ lines. lines ++ lines_on place (parted_at net a b).out) (way_at net a place)
  pub closed : (a b : Name) → HasEnds (record { near = near; far = far }) a b
      → way_at new a (index_in net.names b) ≡ None
  pub other_ways : (u : Name) (place : ℕ) → u ≢ near → u ≢ far
      → way_at new u place ≡ way_at net u place
  pub received : (client : ℕ) (home : Name) → home_in net.homes client ≡ Some home
      → received_by new client
      ≡ received_by net client ++ (lines_to client (parted_at net near far).out
      ++ lines_to client (parted_at net far near).out)
  pub nobody : (client : ℕ) → home_in net.homes client ≡ None → received_by new client ≡ []

-- ---- what is not refused

record NothingAgainst (near far linked : Bool) : Type 0 where
  pub near_so : near ≡ true
  pub far_so : far ≡ true
  pub linked_so : linked ≡ true

nothing_against : (near far linked : Bool) → (if not near || not far then Some no_such_server
    else (if linked then None else Some not_linked)) ≡ None → NothingAgainst near far linked
nothing_against true true true e = record { near_so = refl; far_so = refl; linked_so = refl }
nothing_against true true false e = absurd (cc e)
nothing_against true false linked e = absurd (cc e)
nothing_against false far linked e = absurd (cc e)

pub parting : (net : Network) → IsSetUp net → (near far : Name)
    → fault_at_rest net (cut near far) ≡ None → IsParting net near far
parting net set_up near far taken = record {
  near_among = sym (placed_if net.names near) ∙ fine.near_so;
  far_among = sym (placed_if net.names far) ∙ fine.far_so;
  linked = (tests_tell net.links near far far).2.0 fine.linked_so;
}
  where
    fine : NothingAgainst (is_server net near) (is_server net far) (linked net.links near far)
    fine =
        nothing_against (is_server net near) (is_server net far) (linked net.links near far) taken

-- ---- the link is lost

some_far : {A B : Type 0} (f : A → B) (o : Option A) (y : B) → option_map f o ≡ Some y
    → is_some o ≡ true
some_far f (Some x) y e = refl
some_far f None y e = absurd (cc e)

module _ (stays : ServedKeepsItsSetting) (net : Network) (sound : IsSound net)
    (room : IsOneRoom net) (near far : Name) (m : IsParting net near far) where
  abbrev l : Link
  l = record { near = near; far = far }

  among : (a b : Name) → HasEnds l a b → IsAmong net.names a
  among = both_ends l (λ a b. IsAmong net.names a) m.near_among m.far_among

  forest : IsForest net.links
  forest = subst IsForest (sym sound.links) (room.servers near m.near_among).sound.tree.forest

  near_other : near ≢ far
  near_other = linked_other net.links near far forest m.linked

  -- the end of the link is there
  has_end : (a b : Name) → IsAmong net.names a → IsAmong net.names b → AreLinked net.links a b
      → is_some (get (view_at net a).ends (index_in net.names b)) ≡ true
  has_end a b here there_too are_linked =
      some_far far_of (get (view_at net a).ends (index_in net.names b))
      (if joined (world_now net).links b a then Some b else None)
      ((room.servers a here).ends b there_too
      ∙ ap (λ c. if c then Some (if joined (world_now net).links b a then Some b else None)
      else None)
      (sym (ap (λ links. linked links a b) sound.links)
      ∙ (tests_tell net.links a b b).2.1 are_linked))

  are_linked : (a b : Name) → HasEnds l a b → AreLinked net.links a b
  are_linked = both_ends l (AreLinked net.links) m.linked (linked_back net.links near far m.linked)

  answers : (a b : Name) → HasEnds l a b → reply (view_at net a) (link_down (index_in net.names b))
      ≡ record { state = (parted_at net a b).state; out = (parted_at net a b).out }
  answers a b ends = reply_taken (view_at net a) (link_down (index_in net.names b))
      (has_end a b (among a b ends) (among b a (other_end l a b ends)) (are_linked a b ends))

  abbrev answer : Name → Name → Served
  answer a b = record { state = (parted_at net a b).state; out = (parted_at net a b).out }

  abbrev left : List Link
  left = links_without net.links near far

  will : WillAskBoth net near far left without_way None (link_down (index_in net.names far))
      (link_down (index_in net.names near)) (answer near far)
      (answer far near)
  will = record {
    changes = closes;
    stays = stays;
    set_up = sound.set_up;
    inboxes = sound.inboxes;
    near_among = m.near_among;
    far_among = m.far_among;
    two = near_other;
    near_is = answers near far (inl (refl, refl));
    far_is = answers far near (inr (refl, refl));
  }

  abbrev both_parted : Progress Network
  both_parted = both_asked will

  has_asked : HasAskedBoth net (item_kept (cut near far) both_parted).state near far None
      (answer near far) (answer far near)
  has_asked = asked_both will (cut near far)

  cut_so : IsCut net (item_kept (cut near far) both_parted).state near far
  cut_so = record {
    taken = both_taken will (cut near far);
    state = both_ends l (λ a b. view_at (item_kept (cut near far) both_parted).state a
        ≡ (parted_at net a b).state) has_asked.near_view has_asked.far_view;
    other_views = has_asked.other_views;
    way = both_ends l (λ a b. (place : ℕ) → place ≢ index_in net.names b
        → way_at (item_kept (cut near far) both_parted).state a place
        ≡ option_map (λ lines. lines ++ lines_on place (parted_at net a b).out)
        (way_at net a place)) has_asked.near_way has_asked.far_way;
    closed = both_ends l (λ a b. way_at (item_kept (cut near far) both_parted).state a
        (index_in net.names b) ≡ None) has_asked.near_to_far has_asked.far_to_near;
    other_ways = has_asked.other_ways;
    received = has_asked.received;
    nobody = has_asked.nobody;
  }

  -- ---- the network does so

  is_given : given (cut near far) net ≡ item_kept (cut near far) both_parted
  unfolding given
  is_given = ap (item_kept (cut near far))
      (ap (λ o. option_map_or (servers_parted near far net) o (begun net))
      (both_found will) ∙ is_asked will)

pub cut_is_given : ServedKeepsItsSetting → (net : Network) → IsSound net
    → IsOneRoom net → (near far : Name) → IsParting net near far
    → IsCut net (given (cut near far) net).state near far
cut_is_given stays net sound room near far m =
    subst (λ (progress : Progress Network). IsCut net progress.state near far)
    (sym (is_given stays net sound room near far m)) (cut_so stays net sound room near far m)
