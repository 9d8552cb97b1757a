-- What a network is when a link has just been made.
use Rattle.std.proofs.Common.{◌≡◌, ◌≢◌, ℕ, Bool, true, false, not, ◌||◌, Option, Some, None}
use Rattle.std.proofs.Common.{is_none, List, [], ◌∷◌, ◌++◌, append-nil, map, nat_eq, refl, sym, ◌∙◌}
use Rattle.std.proofs.Common.{ap, subst, if◌then◌else◌}
use Rattle.std.proofs.lemmas.Bool.{eqb-true}
use Rattle.std.specs.Cmp.Lexicographic.{same_text}
use Rattle.std.specs.FinMap.{get}
use Rattle.std.specs.List.{cons_option, find, list_any, AllByRecursion}
use Rattle.std.specs.Option.{option_map, option_map_or}
use Rattle.std.proofs.lemmas.Option.{same_Some}
use Rattle.irc_routes.specs.Lemmas.NumberedRows.{map_none}
use Rattle.irc_batch.specs.Batches.{end_of_link}
use Rattle.irc_batch.specs.declared.close_reason.CloseReason.TheVariants as reason
use Rattle.irc_link_words.specs.Passwords.{is_password}
use Rattle.irc_line.specs.Messages.{Written, line_text, text}
use Rattle.irc_relay.specs.Distances.{IsAmong}
use Rattle.irc_relay.specs.Lemmas.TellingNames.{Telling, alike, unlike, tell}
use Rattle.irc_relay.specs.Links.{Name, part, same, joined, linked}
use Rattle.irc_relay.specs.Lemmas.NextHops.{linked_joined}
use Rattle.irc_relay.specs.Lemmas.LinkTakenOut.{tests_tell}
use Rattle.irc_stage.specs.EffectTold.{in_silence, with_sent}
use Rattle.irc_stage.specs.View.{KnownPeer, View, is_named, password_for, with_end}
use Rattle.irc_server.specs.LinkServed.{on_link, opening_parts}
use Rattle.irc_server.specs.Served.{Served, ServedKeepsItsSetting, link_up, served}
use Rattle.irc_world.specs.Refused.{are_equal, link_refused}
use Rattle.irc_world.specs.Stepping.{link}
use Rattle.irc_world.specs.World.{home_in}
use Rattle.irc_follow.specs.Fits.{far_of}
use Rattle.irc_follow.specs.Says.{body, lines_on}
use Rattle.irc_follow.specs.Tree.{index_in}
use Rattle.irc_network.specs.Network.{Progress, Network, begun, given, item_kept}
use Rattle.irc_network.specs.Network.{servers_linked, received_by, reply, node_view, with_way}
use Rattle.irc_network.specs.Refusing.{are_peers, fault_at_rest, link_fault, meeting_fault}
use Rattle.irc_items.specs.GoodLines.{closings}
use Rattle.irc_items.specs.Laws.{NewLinkIsOpen}
use Rattle.irc_items.specs.OneRoom.{IsOneRoom}
use Rattle.irc_items.specs.Relayed.{way_at, way_between}
use Rattle.irc_items.specs.SetUp.{view_at, HasPassword, IsSetUp}
use Rattle.irc_items.specs.Sound.{world_now, IsSound}
use Rattle.irc_items.proofs.Common.AtRest.{nothing_received}
use Rattle.irc_items.proofs.Common.Step.{HasTaken}
use Rattle.irc_items.proofs.Nodes.Asked.{reply_taken}
use Rattle.irc_items.proofs.Nodes.BothAsked.{asked_both, both_asked, both_found, both_taken}
use Rattle.irc_items.proofs.Nodes.BothAsked.{is_asked, HasAskedBoth, WillAskBoth}
use Rattle.irc_items.proofs.Nodes.SetWays.{opens}
use Rattle.irc_items.specs.Lemmas.SetUpFacts.{viewed, viewed_nowhere}
use Rattle.irc_items.proofs.Good.PutOut.{all_on_it, none_to_clients}

-- Two servers of different parts may be linked: they keep one password for each other.
pub record IsMeeting (net : Network) (near far : Name) : Type 0 where
  pub near_among : IsAmong net.names near
  pub far_among : IsAmong net.names far
  pub apart : part net.links near ≢ part net.links far
  pub word : List ℕ
  pub near_word : password_for (view_at net near) far ≡ Some word
  pub far_word : password_for (view_at net far) near ≡ Some word
  pub is_word : is_password word ≡ true

-- an end is open, to which nobody has named itself
pub record HasOpened (net new : Network) (a b : Name) : Type 0 where
  pub starts : Option Name
  pub state : view_at new a ≡ with_end (index_in net.names b) starts (view_at net a)

-- Both ends are open, and the near end has called: PASS and SERVER are on their way. Nothing else
-- has changed.
pub record IsLinked (net new : Network) (near far : Name) : Type 0 where
  pub taken : HasTaken net new (link near far) net.homes
      (record { near = near; far = far } ∷ net.links)
  pub received : (client : ℕ) → received_by new client ≡ received_by net client
  pub near_view : view_at new near ≡ with_end (index_in net.names far) (Some far) (view_at net near)
  pub far_view : view_at new far ≡ with_end (index_in net.names near) None (view_at net far)
  pub other_views : (u : Name) → u ≢ near → u ≢ far → view_at new u ≡ view_at net u
  pub calls : way_between new near far ≡ Some (map line_text (opening_parts (view_at net near) far))
  pub waits : way_between new far near ≡ Some []
  pub other_ways : (x : Name) (place : ℕ) → (x ≡ near → place ≡ index_in net.names far → ⊥)
      → (x ≡ far → place ≡ index_in net.names near → ⊥) → way_at new x place ≡ way_at net x place

-- ---- what is not refused

found_so : {A : Type 0} (P : A → Type 0) (test : A → Bool) (xs : List A) (x : A)
    → AllByRecursion P xs → find test xs ≡ Some x → P x
found_so P test [] x all is = absurd (cc is)
found_so P test (first ∷ xs) x all is = by (test first) refl (found_so P test xs x all.1)
  where
    by : (b : Bool) → test first ≡ b → (find test xs ≡ Some x → P x) → P x
    by true e rest =
        subst P (one (sym (ap (λ b. if b then Some first else find test xs) e) ∙ is)) all.0
      where
        one : Some first ≡ Some x → first ≡ x
        one same_one = cc same_one
    by false e rest = rest (sym (ap (λ b. if b then Some first else find test xs) e) ∙ is)

-- a password that is kept for a peer is one
is_word_for : (view : View) (name word : Name) → AllByRecursion HasPassword view.peers
    → password_for view name ≡ Some word → is_password word ≡ true
is_word_for view name word all is = by (find (is_named name) view.peers) refl
  where
    by : (o : Option KnownPeer) → find (is_named name) view.peers ≡ o → is_password word ≡ true
    by None e = let f = sym (ap (option_map (λ (peer : KnownPeer). peer.password)) e) ∙ is in
        absurd (cc f)
    by (Some peer) e =
        let f : Some peer.password ≡ Some word =
        sym (ap (option_map (λ (peer : KnownPeer). peer.password)) e) ∙ is in
        sym (ap is_password (same_Some _ _ f))
        ∙ found_so HasPassword (is_named name) view.peers peer all e

-- the word that both have
record IsShared (one other : Option (List ℕ)) : Type 0 where
  pub word : List ℕ
  pub is_one : one ≡ Some word
  pub is_other : other ≡ Some word

shared : (one other : Option (List ℕ)) → are_equal one other ≡ true → IsShared one other
shared (Some one) (Some other) equal =
    record { word = one; is_one = refl; is_other = ap Some (sym (same_text one other (sym equal))) }
shared (Some one) None equal = absurd (cc equal)
shared None other equal = absurd (cc equal)

record NothingAgainst (are_one are_peers : Bool) : Type 0 where
  pub two : are_one ≡ false
  pub peers : are_peers ≡ true

nothing_against : (are_one are_peers : Bool)
    → (if are_one || not are_peers then Some link_refused else None) ≡ None
    → NothingAgainst are_one are_peers
nothing_against true peers e = absurd (cc e)
nothing_against false false e = absurd (cc e)
nothing_against false true e = record { two = refl; peers = refl }

pub meeting : (net : Network) → IsSetUp net → (near far : Name)
    → fault_at_rest net (link near far) ≡ None → IsMeeting net near far
meeting net set_up near far taken =
    by (list_any (same near) net.names) refl (list_any (same far) net.names) refl
  where
    both : IsAmong net.names near → IsAmong net.names far → NothingAgainst
        (joined net.links near far) (are_peers near far (view_at net near) (view_at net far))
        → IsShared (password_for (view_at net near) far) (password_for (view_at net far) near)
        → IsMeeting net near far
    both near_among far_among fine words = record {
      near_among = near_among;
      far_among = far_among;
      apart = λ e. let f = sym ((tests_tell net.links near far far).1.1 e) ∙ fine.two in
          absurd (cc f);
      word = words.word;
      near_word = words.is_one;
      far_word = words.is_other;
      is_word = is_word_for (view_at net near) far words.word
          (set_up.configured near near_among).passwords words.is_one;
    }

    there_both : IsAmong net.names near → IsAmong net.names far → meeting_fault net near far
        (view_at net near) (view_at net far) ≡ None → IsMeeting net near far
    there_both near_among far_among fault =
        let fine = nothing_against (joined net.links near far)
        (are_peers near far (view_at net near) (view_at net far)) fault in
        both near_among far_among fine (shared (password_for (view_at net near) far)
        (password_for (view_at net far) near) fine.peers)

    by : (b : Bool) → list_any (same near) net.names ≡ b → (c : Bool)
        → list_any (same far) net.names ≡ c → IsMeeting net near far
    by true near_among true far_among = there_both near_among far_among
        (sym (λ i. link_fault net near far (viewed net set_up near near_among i)
        (viewed net set_up far far_among i)) ∙ taken)
    by true near_among false none =
        let f = sym (λ i. link_fault net near far (viewed net set_up near near_among i)
        (viewed_nowhere net far none i)) ∙ taken in absurd (cc f)
    by false none c other =
        let f = sym (ap (λ o. link_fault net near far o (node_view net far))
        (viewed_nowhere net near none)) ∙ taken in absurd (cc f)

-- ---- what is put out

-- an end is opened by the server that calls, which says PASS and SERVER
calls_out : (view : View) (k : ℕ) (name word : Name) → get view.ends k ≡ None
    → password_for view name ≡ Some word → reply view (link_up k (Some name))
    ≡ record { state = with_end k (Some name) view; out = on_link k (opening_parts view name) }
unfolding served
calls_out view k name word free is =
    reply_taken view (link_up k (Some name)) (ap is_none free)
    ∙ ap (λ o. record { state = (opened_if o).state; out = (opened_if o).out }) is
  where
    opened_if : Option (List ℕ) → Served
    opened_if o =
        if is_none o then with_sent (end_of_link k reason.UnknownPeer ∷ []) (in_silence view)
        else with_sent (on_link k (opening_parts view name))
        (in_silence (with_end k (Some name) view))

-- and by the one that is called, which waits
is_called : (view : View) (k : ℕ) → get view.ends k ≡ None
    → reply view (link_up k None) ≡ record { state = with_end k None view; out = [] }
unfolding served
is_called view k free = reply_taken view (link_up k None) (ap is_none free)

lines_close_none : (k : ℕ) (lines : List Written) → closings (on_link k lines) ≡ []
lines_close_none k [] = refl
lines_close_none k (parts ∷ lines) = lines_close_none k lines

-- neither closes it
call_closes_none : (view : View) (k : ℕ) (name word : Name) → password_for view name ≡ Some word
    → closings (served view (link_up k (Some name))).out ≡ []
unfolding served
call_closes_none view k name word is =
    ap (λ o. closings (opened_if o).out) is ∙ lines_close_none k (opening_parts view name)
  where
    opened_if : Option (List ℕ) → Served
    opened_if o =
        if is_none o then with_sent (end_of_link k reason.UnknownPeer ∷ []) (in_silence view)
        else with_sent (on_link k (opening_parts view name))
        (in_silence (with_end k (Some name) view))

wait_closes_none : (view : View) (k : ℕ) → closings (served view (link_up k None)).out ≡ []
unfolding served
wait_closes_none view k = refl

pub new_link_is_open : NewLinkIsOpen
new_link_is_open net near far sound taken =
    let m = meeting net sound.set_up near far taken in
    record {
      calls = call_closes_none (view_at net near) (index_in net.names far) far m.word m.near_word;
      waits = wait_closes_none (view_at net far) (index_in net.names near);
    }

none_elsewhere : (k place : ℕ) → place ≢ k → (lines : List Written)
    → lines_on place (on_link k lines) ≡ []
none_elsewhere k place two [] = refl
none_elsewhere k place two (parts ∷ lines) =
    by (nat_eq k place) refl (none_elsewhere k place two lines)
  where
    by : (b : Bool) → nat_eq k place ≡ b → lines_on place (on_link k lines) ≡ []
        → lines_on place (on_link k (parts ∷ lines)) ≡ []
    by true e rest = absurd (two (sym (eqb-true k place e)))
    by false e rest = ap (λ b. cons_option (if b then Some (body (text parts)) else None)
        (lines_on place (on_link k lines))) e ∙ rest

nothing_more : (o : Option (List (List ℕ))) → option_map (λ lines. lines ++ []) o ≡ o
nothing_more None = refl
nothing_more (Some lines) = ap Some (append-nil lines)

-- ---- the link is made

module _ (stays : ServedKeepsItsSetting) (net : Network) (sound : IsSound net)
    (room : IsOneRoom net) (near far : Name) (m : IsMeeting net near far) where
  abbrev p : ℕ
  p = index_in net.names near

  abbrev q : ℕ
  q = index_in net.names far

  not_linked : (a b : Name) → part net.links a ≢ part net.links b → linked net.links a b ≡ false
  not_linked a b apart = by (linked net.links a b) refl
    where
      by : (c : Bool) → linked net.links a b ≡ c → linked net.links a b ≡ false
      by true e = absurd (apart (linked_joined net.links a b ((tests_tell net.links a b b).2.0 e)))
      by false e = e

  -- no end of that number is there yet
  no_end : (a b : Name) → IsAmong net.names a → IsAmong net.names b
      → part net.links a ≢ part net.links b → get (view_at net a).ends (index_in net.names b) ≡ None
  no_end a b here there_too apart =
      map_none far_of (get (view_at net a).ends (index_in net.names b))
      ((room.servers a here).ends b there_too
      ∙ ap (λ c. if c then Some (if joined (world_now net).links b a then Some b else None)
      else None)
      (sym (ap (λ links. linked links a b) sound.links) ∙ not_linked a b apart))

  -- ---- the near end calls, and the far end waits

  abbrev parts : List Written
  parts = opening_parts (view_at net near) far

  abbrev calls : Served
  calls = record { state = with_end q (Some far) (view_at net near); out = on_link q parts }

  abbrev waits : Served
  waits = record { state = with_end p None (view_at net far); out = [] }

  will : WillAskBoth net near far (record { near = near; far = far } ∷ net.links) with_way (Some [])
      (link_up q (Some far)) (link_up p None) calls waits
  will = record {
    changes = opens;
    stays = stays;
    set_up = sound.set_up;
    inboxes = sound.inboxes;
    near_among = m.near_among;
    far_among = m.far_among;
    two = λ e. m.apart (ap (part net.links) e);
    near_is = calls_out (view_at net near) q far m.word
        (no_end near far m.near_among m.far_among m.apart) m.near_word;
    far_is = is_called (view_at net far) p
        (no_end far near m.far_among m.near_among (λ e. m.apart (sym e)));
  }

  abbrev new : Network
  new = (item_kept (link near far) (both_asked will)).state

  has_asked : HasAskedBoth net new near far (Some []) calls waits
  has_asked = asked_both will (link near far)

  -- ---- what is on the ways

  ways_else : (x : Name) (place : ℕ) → (x ≡ near → place ≡ q → ⊥) → (x ≡ far → place ≡ p → ⊥)
      → way_at new x place ≡ way_at net x place
  ways_else x place not_near not_far = by (tell x near) (tell x far)
    where
      by : Telling x near → Telling x far → way_at new x place ≡ way_at net x place
      by (alike _ e) other =
          ap (λ v. way_at new v place) e
          ∙ has_asked.near_way place (not_near e)
          ∙ ap (λ more. option_map (λ lines. lines ++ more) (way_at net near place))
          (none_elsewhere q place (not_near e) parts)
          ∙ nothing_more (way_at net near place)
          ∙ sym (ap (λ v. way_at net v place) e)
      by (unlike _ two) (alike _ e) =
          ap (λ v. way_at new v place) e
          ∙ has_asked.far_way place (not_far e)
          ∙ nothing_more (way_at net far place)
          ∙ sym (ap (λ v. way_at net v place) e)
      by (unlike _ two) (unlike _ three) = has_asked.other_ways x place two three

  -- ---- nobody receives anything

  received_as_before : (client : ℕ) → received_by new client ≡ received_by net client
  received_as_before client = by (home_in net.homes client) refl
    where
      by : (o : Option Name) → home_in net.homes client ≡ o
          → received_by new client ≡ received_by net client
      by (Some home) e =
          has_asked.received client home e
          ∙ ap (λ lines. received_by net client ++ (lines ++ [])) (none_to_clients client q parts)
          ∙ append-nil (received_by net client)
      by None e = has_asked.nobody client e ∙ sym (nothing_received net client sound.inboxes e)

  linked_so : IsLinked net new near far
  linked_so = record {
    taken = taken;
    received = received_as_before;
    near_view = has_asked.near_view;
    far_view = has_asked.far_view;
    other_views = has_asked.other_views;
    calls = ap (λ names. way_at new near (index_in names far)) taken.names ∙ has_asked.near_to_far
        ∙ ap Some (all_on_it q parts);
    waits = ap (λ names. way_at new far (index_in names near)) taken.names ∙ has_asked.far_to_near;
    other_ways = ways_else;
  }
    where
      taken : HasTaken net new (link near far) net.homes
          (record { near = near; far = far } ∷ net.links)
      taken = both_taken will (link near far)

  -- ---- the network does so

  is_given : given (link near far) net ≡ item_kept (link near far) (both_asked will)
  unfolding given
  is_given = ap (item_kept (link near far)) (ap (λ o. option_map_or (servers_linked near far net) o
      (begun net)) (both_found will) ∙ is_asked will)

pub link_is_given : ServedKeepsItsSetting → (net : Network) → IsSound net
    → IsOneRoom net → (near far : Name) → IsMeeting net near far
    → IsLinked net (given (link near far) net).state near far
link_is_given stays net sound room near far m =
    subst (λ (progress : Progress Network). IsLinked net progress.state near far)
    (sym (is_given stays net sound room near far m)) (linked_so stays net sound room near far m)
