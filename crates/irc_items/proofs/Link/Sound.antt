-- What a link that is made comes to: what clients receive by it, and how many lines.
use Rattle.std.proofs.Common.{◌≡◌, ◌≢◌, ◌⊎◌, ℕ, suc, ◌+◌, ◌*◌, ◌-◌, ◌<◌, ◌≤◌, Bool, true, false}
use Rattle.std.proofs.Common.{◌||◌, Some, is_some, List, [], ◌∷◌, ◌++◌, length, count_by, refl, sym}
use Rattle.std.proofs.Common.{ap, subst, ◌∙◌, arith, inl, inr, unwrap_or}
use Rattle.irc_link_words.specs.GreetingLines.{greeting, pass_parts}
use Rattle.irc_line.specs.Messages.{line_text}
use Rattle.std.proofs.lemmas.List.{length-append, length-map}
use Rattle.std.proofs.Math.Nat.{mul-le-mul_right}
use Rattle.irc_merge.specs.Deeds.{Deed, gains}
use Rattle.irc_relay.specs.Distances.{IsAmong}
use Rattle.irc_relay.specs.Following.{all_done, all_seen}
use Rattle.irc_relay.specs.Links.{Name, Link, part, has_ends, joined, linked, same, AreJoined}
use Rattle.irc_relay.specs.Links.{AreLinked, HasEnds}
use Rattle.irc_relay.specs.Relay.{streams_from, from_other_end, coming, lines_coming, lines_pending}
use Rattle.irc_relay.specs.Relay.{under_way}
use Rattle.irc_relay.specs.Lemmas.NextHops.{linked_back}
use Rattle.irc_routes.specs.Known.{Known, servers_told}
use Rattle.irc_stage.specs.Lemmas.Numbers.{one_number, same_number, same_number-is}
use Rattle.irc_stage.specs.View.{View, password_for}
use Rattle.irc_merge.specs.Bursts.{burst}
use Rattle.irc_world.specs.Bounds.{most, part_size}
use Rattle.irc_world.specs.Bystanders.{OnlyConnectedReceive}
use Rattle.irc_world.specs.Stepping.{Stepped, link, link_made}
use Rattle.irc_world.specs.World.{World}
use Rattle.irc_follow.specs.AtRest.{side_state_of}
use Rattle.irc_follow.specs.Fits.{Fits}
use Rattle.irc_follow.specs.SideState.{ItemSetting, SideState, is_home_of, number}
use Rattle.irc_follow.specs.Relinked.{SideAfterLink}
use Rattle.irc_follow.specs.Says.{machine, play}
use Rattle.irc_follow.specs.Tree.{index_in}
use Rattle.irc_follow.specs.Lemmas.SidesFollowed.{IsKnownOfLine}
use Rattle.irc_follow.specs.Lemmas.PlacesOfNames.{one_place}
use Rattle.irc_follow.specs.Lemmas.SaidEffectShown.{append_nil}
use Rattle.irc_network.specs.Laws.{RestStays}
use Rattle.irc_network.specs.Network.{Network, received_by}
use Rattle.irc_items.specs.Relayed.{relayed, way_at, way_between}
use Rattle.irc_items.specs.SetUp.{routes_in, settings_of, view_at}
use Rattle.irc_items.specs.Sound.{owed_now, world_now, is_met, is_calling, HasCalled, IsPlaceOf}
use Rattle.irc_items.specs.Sound.{IsSound}
use Rattle.irc_items.proofs.Burst.Collisions.{answers_of, introduces}
use Rattle.irc_items.proofs.Common.Begun.{begins, IsGoingOn}
use Rattle.irc_items.proofs.Common.Counting.{part_counted}
use Rattle.irc_items.proofs.Common.Ends.{both_ends, is_either, one_end}
use Rattle.irc_items.proofs.Common.FewLines.{next_is_under_way}
use Rattle.irc_items.proofs.Common.Sources.{Stands, at_end, behind, aside, few_from_two, source_of}
use Rattle.irc_items.proofs.Common.Sources.{AreFew}
use Rattle.irc_items.proofs.Common.Step.{item_sound, ComesTo}
use Rattle.irc_items.proofs.Good.GoodLines.{well_follow}
use Rattle.irc_items.proofs.Link.Begins.{away, deeds, deeds_at, starts, IsToldByLink}
use Rattle.irc_items.proofs.Link.Coming.{ComesToLinked}
use Rattle.irc_items.proofs.Link.Step.{apart, as_before, covers, fixed_here, forest, from_other}
use Rattle.irc_items.proofs.Link.Step.{has_ends_so, link_setting, met_before, not_ends, stands}
use Rattle.irc_items.proofs.Link.Step.{IsLinkStep}
use Rattle.irc_items.proofs.Link.Sides.{room_deeds, routes_after, server_deeds, side_of}
use Rattle.irc_items.proofs.Link.Ways.{link_lines, to_end}

pub record AreLinkLaws : Type 0 where
  pub after_link : SideAfterLink
  pub quiet : RestStays
  pub line : IsKnownOfLine
  pub only_connected : OnlyConnectedReceive

-- how many lines an end has for the other, but for those of the handshake
abbrev told_by : Network → Name → ℕ → ℕ
told_by net t way =
    length (servers_told (routes_in net t) way) + length (burst t ((world_now net).hall t).room)

-- where the sides come to, and how many lines that takes
pub record ComesToOne {net new : Network} {near far : Name} (laws : AreLinkLaws)
    (given : IsLinkStep net new near far) : Type 0 where
  pub comes : ComesToLinked (link_setting net near far) (record { near = near; far = far })
      (world_now net) (routes_in net)
  pub few_lines : (t b : Name) → HasEnds (record { near = near; far = far }) t b
      → length (link_lines laws.after_link laws.quiet given b t) ≤ 2 + told_by net b
      (number (link_setting net near far) t)
  pub few_answered : (t b : Name) → HasEnds (record { near = near; far = far }) t b
      → count_by introduces (link_lines laws.after_link laws.quiet given b t) ≤ 1 + told_by net b
      (number (link_setting net near far) t)
  pub few_read : (t b : Name) → HasEnds (record { near = near; far = far }) t b
      → length (room_deeds (world_now net) t b) ≤ length (burst b ((world_now net).hall b).room)
  pub counted : (t b : Name) → HasEnds (record { near = near; far = far }) t b
      → length (servers_told (routes_in net t) (number (link_setting net near far) b)) < part_size
      (settings_of net) (world_now net).links t

-- one side, of p servers, is told by an end that has k lines besides its own, of which there are at
-- most m; those that may be answered count twice
side_few : (k p m : ℕ) → k ≤ m → ((2 + k) + p * (1 + k)) + (1 + k) ≤ 1 + (1 + m) * (suc p + 1)
side_few k p m few =
    let grows : (1 + k) * p ≤ (1 + m) * p = mul-le-mul_right p (omega arith) in
    omega arith

-- a list that has a server in it
less_one : (p : ℕ) → 0 < p → p ≡ suc (p - 1)
less_one p some = omega arith

allowed : (sum answered_near answered_far k j count_near count_far near far m n : ℕ)
    → sum ≤ ((2 + k) + (count_near - 1) * (1 + k)) + ((2 + j) + (count_far - 1) * (1 + j))
    → answered_near ≤ 1 + k → answered_far ≤ 1 + j → near ≡ count_near
    → far ≡ count_far → 0 < near → 0 < far → j ≤ m → k ≤ n
    → sum + answered_near + answered_far ≤ 2 + ((1 + m) * (far + 1) + (1 + n) * (near + 1))
allowed sum answered_near answered_far k j count_near count_far near far m n most to_near to_far e f
    some_near some_far few_far few_near =
    by (count_near - 1) (count_far - 1) (e ∙ less_one count_near (subst (λ p. 0 < p) e some_near))
    (f ∙ less_one count_far (subst (λ p. 0 < p) f some_far)) most
  where
    added : (a b c d m n : ℕ) → sum ≤ a + b → a + c ≤ 1 + m → b + d ≤ 1 + n → answered_near ≤ c
        → answered_far ≤ d → sum + answered_near + answered_far ≤ 2 + (n + m)
    added a b c d m n all one two three four = omega arith

    by : (p q : ℕ) → near ≡ suc p → far ≡ suc q
        → sum ≤ ((2 + k) + p * (1 + k)) + ((2 + j) + q * (1 + j))
        → sum + answered_near + answered_far ≤ 2 + ((1 + m) * (far + 1) + (1 + n) * (near + 1))
    by p q e f most =
        added ((2 + k) + p * (1 + k)) ((2 + j) + q * (1 + j)) (1 + k) (1 + j) ((1 + n) * (near + 1))
        ((1 + m) * (far + 1)) most
        (subst (λ r. ((2 + k) + p * (1 + k)) + (1 + k) ≤ 1 + (1 + n) * (r + 1)) (sym e)
        (side_few k p n few_near))
        (subst (λ r. ((2 + j) + q * (1 + j)) + (1 + j) ≤ 1 + (1 + m) * (r + 1)) (sym f)
        (side_few j q m few_far)) to_near to_far

some_more : {n p : ℕ} → n < p → 0 < p
some_more less = omega (less, arith)

-- fewer servers than there are, and all that a room has
told_at_most : (servers room size : ℕ) → servers < size → servers + room ≤ (size - 1) + room
told_at_most servers room size less = omega arith

module _ {net new : Network} {near far : Name} (laws : AreLinkLaws)
    (given : IsLinkStep net new near far)
    (tells : IsToldByLink laws.after_link laws.quiet given) (one : ComesToOne laws given) where
  abbrev s : ItemSetting
  s = link_setting net near far

  abbrev world : World
  world = world_now net

  abbrev l : Link
  l = record { near = near; far = far }

  abbrev made : Stepped
  made = link_made world near far

  abbrev source : Name → Name
  source = from_other_end world.links near far

  abbrev routes : Name → Known
  routes = routes_after s l world (routes_in net)

  module _ (client : ℕ) where
    received_same : received_by new client ≡ owed_now net client
    received_same = given.linked.received client ∙ given.step.one.received client

    abbrev sides : Name → SideState
    sides = side_of s l world (routes_in net)

    abbrev link_deeds : Name → List Deed
    link_deeds = deeds laws.after_link laws.quiet given tells client

    abbrev owed : List (List ℕ)
    owed = owed_now net client ++ made.out client

    -- whoever takes no lines is of another part
    source_aside : (t : Name) → s.streams.depth t ≡ 0 → (e o : Name) → HasEnds l e o
        → AreJoined world.links t e → ⊥
    source_aside t none = by (stands given t)
      where
        by : Stands (HasEnds l) world.links s.streams 1 t → (e o : Name) → HasEnds l e o
            → AreJoined world.links t e → ⊥
        by (at_end o ends one_off) = absurd (let no : ⊥ = omega arith in no)
        by (behind e o ends on two above deep) = absurd (let no : ⊥ = omega arith in no)
        by (aside away _) = away

    told_source : (t : Name) → is_home_of s.homes t client ≡ true → s.streams.depth t ≡ 0
        → received_by new client ≡ owed
    told_source t home none =
        received_same ∙ sym (ap (λ more. owed_now net client ++ more) (one.comes.aside_seen client t
        home (source_aside t none)) ∙ append_nil (owed_now net client))

    at_source : (t : Name) → IsAmong net.names t → s.streams.depth t ≡ 0
        → Fits s t (side_state_of s made.state routes t) (view_at new t)
    at_source t among none =
        one.comes.others (streams_from net.links (λ server. server)) t (view_at new t) among away
        (subst (Fits (record s { streams = streams_from net.links (λ server. server) }) t
        (side_state_of s world (routes_in net) t))
        (sym (given.linked.other_views t
        (λ e. away near far (inl (refl, refl)) (ap (part world.links) e))
        (λ e. away far near (inr (refl, refl)) (ap (part world.links) e))))
        (given.step.one.servers t among))
      where
        away : (e o : Name) → HasEnds l e o → AreJoined world.links t e → ⊥
        away = source_aside t none

    comes_to : (t : Name) (view : View) → IsAmong net.names t → 0 < s.streams.depth t
        → Fits s t (all_done (play s client) (sides t) (link_deeds t)) view
        → Fits s t (side_state_of s made.state routes t) view
    comes_to t view among below fits =
        let at = source_of (stands given t) below in
        one.comes.comes at.e at.o at.ends client t view among at.on
        (subst (λ deeds. Fits s t (all_done (play s client) (sides t) deeds) view)
        (deeds_at laws.after_link laws.quiet given tells client t at.e at.o at.ends at.on) fits)

    told_taker : (t : Name) → is_home_of s.homes t client ≡ true → 0 < s.streams.depth t
        → received_by new client ++ all_seen (play s client) t (sides t) (link_deeds t) ≡ owed
    told_taker t home below =
        let at = source_of (stands given t) below in
        ap (λ shown. shown ++ all_seen (play s client) t (sides t) (link_deeds t)) received_same
        ∙ ap (λ deeds. owed_now net client ++ all_seen (play s client) t (sides t) deeds)
        (deeds_at laws.after_link laws.quiet given tells client t at.e at.o at.ends at.on)
        ∙ ap (λ more. owed_now net client ++ more)
        (one.comes.seen at.e at.o at.ends client t at.on home)

    goes_on : IsGoingOn s (answers_of l) made.state source routes new client owed sides link_deeds
    goes_on = record {
      forest = forest given;
      covers = covers given;
      streams = refl;
      follow = well_follow laws.line s client (fixed_here given) (answers_of l) made.state routes;
      begun = record {
        starts = starts laws.after_link laws.quiet given tells client;
        away = away laws.after_link laws.quiet given tells client;
        at_source = at_source;
        comes_to = comes_to;
        told_source = told_source;
        told = told_taker;
      };
    }

    -- ---- few lines

    lines_come : (t b : Name) → HasEnds l t b → coming (machine s client) s.streams
        (relayed s new client) t ≡ link_lines laws.after_link laws.quiet given b t
    lines_come t b ends =
        next_is_under_way goes_on t (from_other given t b ends).1
        ∙ ap (λ p. under_way (relayed s new client) p t) (from_other given t b ends).0
        ∙ to_end laws.after_link laws.quiet given client t b ends

    deeds_few : (t a b : Name) → HasEnds l a b → AreJoined world.links t a
        → length (link_deeds t) ≤ 1 + told_by net b (number s a)
    deeds_few t a b ends on =
        let all = ap (λ (deeds : List Deed). length deeds)
        (deeds_at laws.after_link laws.quiet given tells client t a b ends on)
        ∙ length-append (server_deeds s (routes_in net) a b) (room_deeds world a b) in
        let servers = length-map (servers_told (routes_in net b) (number s a))
        (λ r. gains r.uplink r.name r.info) in
        let room = one.few_read a b ends in
        omega arith

    -- next to their source are the ends alone
    none_next : (t a b : Name) → HasEnds l a b → AreJoined world.links t a → t ≢ a
        → s.streams.depth t ≡ 1 → ⊥
    none_next t a b ends on two depth = by (stands given t)
      where
        by : Stands (HasEnds l) world.links s.streams 1 t → ⊥
        by (at_end o its _) = two (one_end l world.links (apart given) t o a b its ends on)
        by (behind e o its _ _ _ deep) = let no : ⊥ = omega arith in no
        by (aside away _) = away a b ends on

    few : AreFew (HasEnds l) world.links s new client link_deeds
        (λ t b. 2 + told_by net b (number s t))
        (λ t b. 1 + told_by net b (number s t))
    few = record {
      at_end = λ t b ends. subst (λ lines. length lines ≤ 2 + told_by net b (number s t))
          (sym (lines_come t b ends)) (one.few_lines t b ends);
      next = λ t a b ends on two depth. absurd (none_next t a b ends on two depth);
      told = deeds_few;
    }

    answered_few : (t b : Name) → HasEnds l t b → count_by introduces (coming
        (machine s client) s.streams (relayed s new client) t) ≤ 1 + told_by net b (number s t)
    answered_few t b ends =
        subst (λ lines. count_by introduces lines ≤ 1 + told_by net b (number s t))
        (sym (lines_come t b ends)) (one.few_answered t b ends)

    pending : lines_pending (machine s client) s.streams (relayed s new client) net.names introduces
        near far ≤ most (settings_of net) world (link near far)
    unfolding most
    pending =
        allowed (lines_coming (machine s client) s.streams (relayed s new client) net.names)
        (count_by introduces (coming (machine s client) s.streams (relayed s new client) near))
        (count_by introduces (coming (machine s client) s.streams (relayed s new client) far))
        (told_by net far (number s near)) (told_by net near (number s far))
        (count_by (joined world.links near) net.names) (count_by (joined world.links far) net.names)
        (part_size (settings_of net) world.links near) (part_size (settings_of net) world.links far)
        (part_size (settings_of net) world.links near - 1 + length
        (burst near (world.hall near).room))
        (part_size (settings_of net) world.links far - 1 + length (burst far (world.hall far).room))
        (few_from_two goes_on (stands given) few net.names near far (inl (refl, refl))
        (inr (refl, refl)) (is_either l)
        (given.step.sound.set_up.once near given.meeting.near_among)
        (given.step.sound.set_up.once far given.meeting.far_among))
        (answered_few near far (inl (refl, refl))) (answered_few far near (inr (refl, refl)))
        (part_counted net given.step.sound.set_up world.links near)
        (part_counted net given.step.sound.set_up world.links far)
        (some_more (one.counted near far (inl (refl, refl))))
        (some_more (one.counted far near (inr (refl, refl))))
        (told_at_most (length (servers_told (routes_in net near) (number s far)))
        (length (burst near (world.hall near).room))
        (part_size (settings_of net) world.links near) (one.counted near far (inl (refl, refl))))
        (told_at_most (length (servers_told (routes_in net far) (number s near)))
        (length (burst far (world.hall far).room))
        (part_size (settings_of net) world.links far) (one.counted far near (inr (refl, refl))))

  -- ---- who has called

  pass_line : List ℕ
  pass_line = line_text (pass_parts (unwrap_or (password_for (view_at net near) far) []))

  -- the near end calls: its SERVER is behind its PASS
  calling : HasCalled s new near far
  unfolding pass_line
  calling = is_calling (pass_line ∷ []) []
      (given.linked.calls
      ∙ ap (λ k. Some (pass_line ∷ line_text (greeting k) ∷ []))
      (sym (as_before given (λ v. v.routes) (λ k starts view. refl) near)))

  called : (x y : Name) → HasEnds l x y ⊎ AreLinked world.links x y
      → HasCalled s new x y ⊎ HasCalled s new y x
  called x y (inl ends) = both_ends l (λ x y. HasCalled s new x y ⊎ HasCalled s new y x)
      (inl calling) (inr calling) x y ends
  called x y (inr linked_so) =
      inl (is_met (met_before given laws.after_link y x (linked_back world.links x y linked_so)))

  -- ---- ways

  ways_now : (x y : Name) → is_some (way_at new x (number s y)) ≡ linked (l ∷ world.links) x y
  ways_now x y = by (has_ends l x y) refl
    where
      named : (x y : Name) → is_some (way_at new x (number s y)) ≡ is_some (way_between new x y)
      named x y =
          ap (λ names. is_some (way_at new x (index_in names y))) (sym given.step.taken.names)

      at_ends : (x y : Name) → HasEnds l x y → is_some (way_at new x (number s y)) ≡ true
      at_ends = both_ends l (λ x y. is_some (way_at new x (number s y)) ≡ true)
          (named near far ∙ ap is_some given.linked.calls)
          (named far near ∙ ap is_some given.linked.waits)

      by : (b : Bool) → has_ends l x y ≡ b
          → is_some (way_at new x (number s y)) ≡ (has_ends l x y || linked world.links x y)
      by true e =
          at_ends x y (has_ends_so given x y e) ∙ sym (ap (λ b. b || linked world.links x y) e)
      by false e =
          ap is_some (given.linked.other_ways x (number s y)
          (λ n same.
          none (inl (sym n, one_place net.names far y given.meeting.far_among (sym same))))
          (λ n same.
          none (inr (one_place net.names near y given.meeting.near_among (sym same), sym n))))
          ∙ given.step.sound.ways x y ∙ ap (λ links. linked links x y) given.step.sound.links
          ∙ sym (ap (λ b. b || linked world.links x y) e)
        where
          none : HasEnds l x y → ⊥
          none = not_ends given x y e

  to_servers : (x : Name) (place : ℕ) → is_some (way_at new x place) ≡ true → IsPlaceOf net place
  to_servers x place is =
      by (same_number place (number s far)) refl (same_number place (number s near)) refl
    where
      there : (b : Name) → IsAmong net.names b → same_number place (number s b) ≡ true
          → IsPlaceOf net place
      there b among e =
          record { server = b; among = among; is = sym (one_number place (number s b) e) }

      other : (b : Name) → same_number place (number s b) ≡ false → place ≡ number s b → ⊥
      other b e same = let no = sym (same_number-is place (number s b) same) ∙ e in cc no

      by : (a : Bool) → same_number place (number s far) ≡ a → (b : Bool)
          → same_number place (number s near) ≡ b → IsPlaceOf net place
      by true e b f = there far given.meeting.far_among e
      by false e true f = there near given.meeting.near_among f
      by false e false f = given.step.sound.to_servers x place
          (sym (ap is_some (given.linked.other_ways x place (λ n same. other far e same)
          (λ n same. other near f same))) ∙ is)

  -- ---- where that brings the network

  brings : ComesTo net new (link near far) net.homes made source routes (answers_of l)
  brings = record {
    covers = covers given;
    right = one.comes.right;
    called = called;
    under_way = λ client. begins (goes_on client);
    few = pending;
    ways = ways_now;
    to_servers = to_servers;
  }

  pub link_sound : IsSound new
  link_sound = item_sound laws.only_connected given.step brings
