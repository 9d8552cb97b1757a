-- What is so while nothing is on its way: nobody owes anybody a line, and what was to come has
-- come.
use Rattle.std.proofs.Common.{◌≡◌, ◌≢◌, ◌⊎◌, ℕ, Bool, true, false, cond, Option, Some, None, List}
use Rattle.std.proofs.Common.{[], ◌∷◌, ◌++◌, map, refl, sym, ap, subst, ◌∙◌, arith, inl, inr}
use Rattle.std.proofs.Common.{is_some, if◌then◌else◌, unwrap_or}
use Rattle.std.specs.FinMap.{get}
use Rattle.std.specs.Option.{option_and_then, option_map, option_map_or}
use Rattle.irc_line.specs.Messages.{line_text}
use Rattle.irc_link_words.specs.GreetingLines.{greeting}
use Rattle.irc_relay.specs.Distances.{EndsAreAmong, IsAmong}
use Rattle.irc_relay.specs.Following.{AllAlong}
use Rattle.irc_relay.specs.Laws.{ComingInTurn}
use Rattle.irc_relay.specs.Lemmas.TellingNames.{Telling, alike, unlike, tell, same_when}
use Rattle.irc_relay.specs.Links.{Name, Link, joined, linked, distance, AreLinked, IsForest}
use Rattle.irc_relay.specs.Relay.{streams_from, Covers, IsAtRest, TakesFrom, ComesInTurn, at_source}
use Rattle.irc_relay.specs.Relay.{from_source, from_parent, after, coming, final, passed_on}
use Rattle.irc_relay.specs.Relay.{under_way}
use Rattle.irc_relay.specs.Lemmas.NextHops.{distance_self, linked_back, linked_joined, next_hop}
use Rattle.irc_relay.specs.Lemmas.LinkTakenOut.{tests_tell}
use Rattle.irc_routes.specs.Known.{Known}
use Rattle.irc_stage.specs.View.{End, View}
use Rattle.irc_stage.specs.Ends.{is_met as has_far}
use Rattle.irc_server.specs.LinkServed.{owed_by}
use Rattle.irc_world.specs.World.{World}
use Rattle.irc_follow.specs.AtRest.{side_state_of}
use Rattle.irc_follow.specs.Fits.{Fits, IsNumberOf, far_of}
use Rattle.irc_follow.specs.SideState.{ItemSetting, number}
use Rattle.irc_follow.specs.Says.{neighbour_served, lines_on, machine}
use Rattle.irc_network.specs.Network.{Network, Node, begun, delivered, is_at_rest, server_place}
use Rattle.irc_network.specs.Network.{node_at, taken_of, waiting}
use Rattle.irc_network.specs.Laws.{RestStays}
use Rattle.irc_items.specs.GoodLines.{Answering, IsGoodLine}
use Rattle.irc_items.specs.Relayed.{setting_of_item, is_met_with, owed_at, owed_to, relayed, way_at}
use Rattle.irc_items.specs.Relayed.{way_between}
use Rattle.irc_items.specs.SetUp.{view_at}
use Rattle.irc_items.specs.Sound.{IsSound, IsUnderWay, owed_now, world_now, is_met, is_calling}
use Rattle.irc_items.specs.Sound.{HasCalled}

-- ---- who owes nothing

-- whoever has named itself, if its end is there
paid_if : (s : ItemSetting) (view : View) (to : Name) → ((end : End)
    → get view.ends (number s to) ≡ Some end → has_far end ≡ true) → owed_to s view to ≡ []
paid_if s view to named = by (get view.ends (number s to)) refl
  where
    by : (o : Option End) → get view.ends (number s to) ≡ o → owed_to s view to ≡ []
    by None is = ap (λ o. option_map_or (owed_at s view to) o []) is
    by (Some end) is =
        ap (λ o. option_map_or (owed_at s view to) o []) is
        ∙ ap (λ b. cond b [] (map line_text (owed_by view (number s to) to end))) (named end is)

-- a server that has named itself is told what was owed
pub met_is_paid : (s : ItemSetting) (view : View) (to : Name) → is_met_with s view to ≡ true
    → owed_to s view to ≡ []
met_is_paid s view to met =
    paid_if s view to (λ end is. sym (ap (λ o. option_map_or has_far o false) is) ∙ met)

some_far : (linked_so joined_so : Bool) (far : Option Name) (x : Name) → joined_so ≡ true → Some far
    ≡ (if linked_so then Some (if joined_so then Some x else None) else None) → far ≡ Some x
some_far true true far x so is = cc is
some_far true false far x so is = cc so
some_far false b far x so is = cc is

linked_so : (links : List Link) (t x : Name) (far : Option Name) (inner : Option Name)
    → Some far ≡ (if linked links t x then Some inner else None) → AreLinked links t x
linked_so links t x far inner is = by (linked links t x) refl is
  where
    by : (b : Bool) → linked links t x ≡ b → Some far ≡ (if b then Some inner else None)
        → AreLinked links t x
    by true e is = ((tests_tell links t x t).2.0 e)
    by false e is = cc is

-- at rest every end is that of a server that has named itself
module _ (s : ItemSetting) (world : World) (routes : Name → Known) (t : Name) (view : View)
    (fits : Fits s t (side_state_of s world routes t) view) where
  end_met : (to : Name) (end : End) → get view.ends (number s to) ≡ Some end → has_far end ≡ true
  end_met to end is = by (fits.no_others (number s to) end is)
    where
      by : IsNumberOf s (number s to) → has_far end ≡ true
      by n = ap is_some (some_far (linked world.links t n.server)
          (joined world.links n.server t) end.far n.server together far)
        where
          far : Some end.far ≡ (if linked world.links t n.server
              then Some (if joined world.links n.server t then Some n.server else None) else None)
          far = sym (ap (option_map far_of) (ap (get view.ends) n.is ∙ is))
              ∙ fits.ends n.server n.among

          together : joined world.links n.server t ≡ true
          together = (tests_tell world.links n.server t t).1.1
              (sym (linked_joined world.links t n.server
              (linked_so world.links t n.server end.far (if joined world.links n.server t
              then Some n.server else None) far)))

  pub nothing_owed : (to : Name) → owed_to s view to ≡ []
  nothing_owed to = paid_if s view to (end_met to)

-- what is owed to another stays, line by line from a third
pub owed_along : (s : ItemSetting) (asks : Answering) (world : World) (routes : Name → Known)
    (client : ℕ)
    (p t u : Name) → u ≢ p → (view : View)
    (lines : List (List ℕ))
    → AllAlong (machine s client) (IsGoodLine s asks world routes) p t view lines
    → owed_to s (after (machine s client) t p view lines) u ≡ owed_to s view u
owed_along s asks world routes client p t u two view [] all = refl
owed_along s asks world routes client p t u two view (line ∷ lines) all =
    owed_along s asks world routes client p t u two ((machine s client).step t p view line) lines
    all.1 ∙ (all.0.good.others u two).owes_as_before

-- nobody is sent a line back
passed_back : (s : ItemSetting) (client : ℕ) (t p : Name) (view : View) (lines : List (List ℕ))
    → passed_on (machine s client) t p view lines p ≡ []
passed_back s client t p view [] = refl
passed_back s client t p view (line ∷ lines) =
    ap (λ b. cond b [] (lines_on (number s p) (neighbour_served s p view line).out)
    ++ passed_on (machine s client) t p ((machine s client).step t p view line) lines p)
    (same_when p p refl)
    ∙ passed_back s client t p ((machine s client).step t p view line) lines

-- ---- no line is on its way

none_left : (rest : RestStays) (net : Network) → is_at_rest net ≡ true → (from to : ℕ) (node : Node)
    → node_at net from ≡ Some node → waiting node to ≡ []
unfolding delivered
none_left rest net quiet from to node is = by (waiting node to) refl
  where
    none : taken_of from to (begun net) node (waiting node to) ≡ None
    none = sym (ap (option_and_then (λ (node : Node). taken_of from to (begun net) node
        (waiting node to))) is) ∙ (rest (begun net) quiet).no_line from to

    by : (lines : List (List ℕ)) → waiting node to ≡ lines → waiting node to ≡ []
    by [] e = e
    by (first ∷ more) e = cc (sym (ap (taken_of from to (begun net) node) e) ∙ none)

pub quiet_ways : RestStays → (net : Network) → is_at_rest net ≡ true → (x : Name) (place : ℕ)
    → unwrap_or (way_at net x place) [] ≡ []
quiet_ways rest net quiet x place = by (server_place net x) refl
  where
    at : (from : ℕ) (o : Option Node) → node_at net from ≡ o
        → unwrap_or (option_and_then (λ (node : Node). get node.queues place) o) [] ≡ []
    at from None is = refl
    at from (Some node) is = none_left rest net quiet from place node is

    by : (o : Option ℕ) → server_place net x ≡ o → unwrap_or (way_at net x place) [] ≡ []
    by None is = ap (λ o. unwrap_or (option_and_then (λ (node : Node). get node.queues place)
        (option_and_then (node_at net) o)) []) is
    by (Some from) is =
        ap (λ o. unwrap_or (option_and_then (λ (node : Node). get node.queues place)
        (option_and_then (node_at net) o)) []) is ∙ at from (node_at net from) refl

-- ---- nothing is under way

-- what is coming to a server that has named itself to its parent is nothing, where no line is on
-- its way
module _ (net : Network) (s : ItemSetting) (source : Name → Name)
    (streams : s.streams ≡ streams_from net.links source) (forest : IsForest net.links)
    (covers : Covers net.links source) (in_turn : ComingInTurn View (List ℕ) (List ℕ)) (client : ℕ)
    (quiet : (x y : Name) → (relayed s net client).queue x y ≡ []) where
  none_coming : (t : Name) → s.streams.parent (s.streams.parent t) ≡ t
      → owed_to s (view_at net (s.streams.parent t)) t ≡ []
      → coming (machine s client) s.streams (relayed s net client) t ≡ []
  none_coming t back paid =
      by (subst (λ st. ComesInTurn (machine s client) st (relayed s net client) t) (sym streams)
      (in_turn (machine s client) net.links source (relayed s net client) t forest covers))
    where
      none : under_way (relayed s net client) (s.streams.parent t) t ≡ []
      none = ap (λ lines. lines ++ owed_to s (view_at net (s.streams.parent t)) t)
          (quiet (s.streams.parent t) t) ∙ paid

      by : ComesInTurn (machine s client) s.streams (relayed s net client) t
          → coming (machine s client) s.streams (relayed s net client) t ≡ []
      by (at_source _ is) = is
      by (from_source _ is) = is ∙ none
      by (from_parent near deep is) = is ∙ ap (λ lines. lines ++ later) none ∙ no_later
        where
          later : List (List ℕ)
          later = passed_on (machine s client) (s.streams.parent t)
              (s.streams.parent (s.streams.parent t)) (view_at net (s.streams.parent t))
              (coming (machine s client) s.streams (relayed s net client) (s.streams.parent t)) t

          no_later : later ≡ []
          no_later =
              ap (λ q. passed_on (machine s client) (s.streams.parent t) q
              (view_at net (s.streams.parent t))
              (coming (machine s client) s.streams (relayed s net client)
              (s.streams.parent t)) t) back
              ∙ passed_back s client (s.streams.parent t) t (view_at net (s.streams.parent t))
              (coming (machine s client) s.streams (relayed s net client) (s.streams.parent t))

some_line : (before behind : List (List ℕ)) (line : List ℕ) (o : Option (List (List ℕ)))
    → unwrap_or o [] ≡ [] → o ≡ Some (before ++ line ∷ behind) → ⊥
some_line before behind line o none is = not_empty before (sym (ap (λ o. unwrap_or o []) is) ∙ none)
  where
    not_empty : (before : List (List ℕ)) → before ++ line ∷ behind ≡ [] → ⊥
    not_empty [] e = cc e
    not_empty (first ∷ before) e = cc e

-- ---- at rest

pub record AreRestLaws : Type 0 where
  pub quiet : RestStays
  pub in_turn : ComingInTurn View (List ℕ) (List ℕ)

module _ (laws : AreRestLaws) (net : Network) (sound : IsSound net) (rest : is_at_rest net ≡ true)
    (forest : IsForest net.links)
    (ends : EndsAreAmong net.names net.links) (world_links : net.links ≡ (world_now net).links)
    (client : ℕ) where
  abbrev s : ItemSetting
  s = setting_of_item net (streams_from net.links sound.source)

  under : IsUnderWay s sound.asks (world_now net) sound.routes net client (owed_now net client)
  under = sound.coming.under_way client

  quiet : (x y : Name) → (relayed s net client).queue x y ≡ []
  quiet x y = quiet_ways laws.quiet net rest x (number s y)

  linked_to : (x y : Name) → TakesFrom s.streams y x → AreLinked net.links y x
  linked_to x y takes = subst (AreLinked net.links y) takes.parent
      (next_hop net.links y (sound.source y) forest (sound.coming.covers.joined y) away).linked
    where
      away : y ≢ sound.source y
      away e = let z = ap (λ v. distance net.links v (sound.source y)) e
          ∙ distance_self net.links (sound.source y) in
          let b = takes.below in
          omega arith

  -- whoever takes from a server that owes it something
  owes_nobody : (x y : Name) (line : List ℕ) (lines : List (List ℕ))
      → owed_to s (view_at net x) y ≡ line ∷ lines → TakesFrom s.streams y x → ⊥
  owes_nobody x y line lines owes takes = by (tell y (s.streams.parent x))
    where
      among : IsAmong net.names x
      among = ends x y (linked_back net.links y x (linked_to x y takes))

      paid : owed_to s (final (machine s client) s.streams (relayed s net client) x) y ≡ []
      paid = nothing_owed s (world_now net) sound.routes x
          (final (machine s client) s.streams (relayed s net client) x) (under.fits x among) y

      no_way : (from to : Name) (before behind : List (List ℕ)) (line : List ℕ)
          → way_between net from to ≡ Some (before ++ line ∷ behind) → ⊥
      no_way from to before behind line is =
          some_line before behind line (way_between net from to) (quiet from to) is

      met : is_met_with s (view_at net x) y ≡ true → ⊥
      met m = cc (sym owes ∙ met_is_paid s (view_at net x) y m)

      -- the one that is next to it and owes it nothing tells it nothing
      told_nothing : y ≡ s.streams.parent x → is_met_with s (view_at net y) x ≡ true → ⊥
      told_nothing e m = cc (sym owes ∙ sym (ap (λ lines. owed_to s (after (machine s client) x
          (s.streams.parent x) (view_at net x) lines) y) none) ∙ paid)
        where
          none : coming (machine s client) s.streams (relayed s net client) x ≡ []
          none = none_coming net s sound.source refl forest sound.coming.covers laws.in_turn
              client quiet x
              (ap s.streams.parent (sym e) ∙ takes.parent)
              (ap (λ v. owed_to s (view_at net v) x) (sym e) ∙ met_is_paid s (view_at net y) x m)

      called : y ≡ s.streams.parent x → HasCalled s net x y ⊎ HasCalled s net y x → ⊥
      called e (inl (is_met m)) = told_nothing e m
      called e (inl (is_calling before behind is)) =
          no_way x y before behind (line_text (greeting (view_at net x).routes)) is
      called e (inr (is_met m)) = met m
      called e (inr (is_calling before behind is)) =
          no_way y x before behind (line_text (greeting (view_at net y).routes)) is

      by : Telling y (s.streams.parent x) → ⊥
      by (alike _ e) =
          called e (sound.coming.called x y (linked_back net.links y x (linked_to x y takes)))
      by (unlike _ two) = cc (sym owes ∙ sym (owed_along s sound.asks
          (world_now net) sound.routes client (s.streams.parent x) x y two (view_at net x)
          (coming (machine s client) s.streams (relayed s net client) x) (under.well x)) ∙ paid)

  pub nothing_under_way : IsAtRest (relayed s net client)
  nothing_under_way x y = by (owed_to s (view_at net x) y) refl
    where
      by : (lines : List (List ℕ)) → owed_to s (view_at net x) y ≡ lines
          → under_way (relayed s net client) x y ≡ []
      by [] e = ap (λ lines. lines ++ owed_to s (view_at net x) y) (quiet x y) ∙ e
      by (line ∷ lines) e = absurd (owes_nobody x y line lines e (under.away x y line lines
          (ap (λ lines. lines ++ owed_to s (view_at net x) y) (quiet x y) ∙ e)))
