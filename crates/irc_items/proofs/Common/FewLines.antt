-- How many lines come to servers while an item is under way: next to the source those that are
-- under way, further on no more than there are deeds.
use Rattle.std.proofs.Common.{◌≡◌, ◌≢◌, ℕ, zero, suc, ◌<◌, ◌≤◌, List, [], ◌∷◌, ◌++◌, length}
use Rattle.std.proofs.Common.{count_by, ◌+◌, false, refl, sym, ap, subst, ◌∙◌, arith}
use Rattle.irc_merge.specs.Deeds.{Deed}
use Rattle.irc_relay.specs.Following.{Follows, Play, SaysOn, sends, keeps, Tells, nothing, by_line}
use Rattle.irc_relay.specs.Following.{aside_line, passing_by, Terms}
use Rattle.irc_relay.specs.Links.{Name, Link, IsForest, AreLinked, distance, toward}
use Rattle.irc_relay.specs.Relay.{ComesInTurn, at_source, from_source, from_parent, Machine}
use Rattle.irc_relay.specs.Relay.{RelayState}
use Rattle.irc_relay.specs.Relay.{Streams, TakesFrom, streams_from, Covers, passed_on, under_way}
use Rattle.irc_relay.specs.Relay.{coming, lines_coming, lines_pending}
use Rattle.irc_relay.specs.Lemmas.Deliveries.{comes_in_turn}
use Rattle.irc_relay.specs.Lemmas.StreamsFlow.{covers_flows}
use Rattle.irc_relay.specs.Lemmas.NextHops.{distance_self, linked_back, next_hop}
use Rattle.irc_relay.specs.Lemmas.ActsToldOn.{no_return}
use Rattle.irc_routes.specs.Known.{Known}
use Rattle.irc_stage.specs.View.{View}
use Rattle.irc_world.specs.World.{World}
use Rattle.irc_follow.specs.SideState.{ItemSetting, SideState}
use Rattle.irc_follow.specs.Says.{machine, play}
use Rattle.irc_network.specs.Network.{Network}
use Rattle.irc_items.specs.GoodLines.{no_answers, Answering}
use Rattle.irc_items.specs.Relayed.{relayed}
use Rattle.irc_items.specs.SetUp.{view_at}
use Rattle.irc_items.proofs.Common.Begun.{follows, none_at_source as nothing_at_source, IsGoingOn}
use Rattle.irc_items.proofs.Good.GoodLines.{good_terms}

-- ---- any machine

module _ {State Line Shown World Act : Type 0} (m : Machine State Line Shown)
    (play : Play World Act Shown) (x : Terms State Line World Act)
    (links : List Link) (streams : Streams) (follows : Follows m play x links streams)
    (p t u : Name) (linked : AreLinked links t u)
    (takes : TakesFrom streams t p) (next : TakesFrom streams u t) (apart : u ≢ p) where
  one_first : (w : World) (su : State) (act : Act) (s' : State) (first rest : List Line) (n : ℕ)
      → x.fits u w su → SaysOn m x t u w su act s' first
      → ((su' : State) → x.fits u (play.done w act) su' → x.meet t u s' su' → length rest ≤ n)
      → length (first ++ rest) ≤ suc n
  one_first w su act s' first rest n fits (sends line is said meet) more =
      let few =
      more (m.step u t su line) (follows.said_fits t u w su act line next fits said) meet in
      subst (λ lines. length (lines ++ rest) ≤ suc n) (sym is) (omega arith)
  one_first w su act s' first rest n fits (keeps is passes meet) more =
      let few = more su (follows.passed_fits u w su act fits passes) meet in
      subst (λ lines. length (lines ++ rest) ≤ suc n) (sym is) (omega arith)

  -- told of these acts, a server tells another of each by one line at most
  pub told_most : (w : World) (s su : State) (acts : List Act) (lines : List Line)
      → x.fits t w s → x.fits u w su → x.meet t u s su → Tells m play x p t w s acts lines
      → length (passed_on m t p s lines u) ≤ length acts
  told_most w s su acts lines fits fits_u meet nothing = omega arith
  told_most w s su (act ∷ acts) (line ∷ lines) fits fits_u meet (by_line said more) =
      one_first w su act (m.step t p s line) (m.sends t p s line u)
      (passed_on m t p (m.step t p s line) lines u) (length acts) fits_u
      (follows.said_on p t u w s su act line linked takes next apart fits fits_u meet said)
      (λ su' fits' meet'. told_most (play.done w act) (m.step t p s line) su' acts lines
      (follows.said_fits p t w s act line takes fits said) fits' meet' more)
  told_most w s su acts (line ∷ lines) fits fits_u meet (aside_line aside more) =
      subst (λ first. length (first ++ passed_on m t p (m.step t p s line) lines u) ≤ length acts)
      (sym (follows.aside_sends p t u w s line takes next apart fits aside))
      (told_most w (m.step t p s line) su acts lines
      (follows.aside_fits p t w s line takes fits aside) fits_u
      (follows.aside_meets p t u w s su line takes next apart fits fits_u meet aside) more)
  told_most w s su (act ∷ acts) lines fits fits_u meet (passing_by passes more) =
      let few =
      told_most (play.done w act) s su acts lines (follows.passed_fits t w s act fits passes)
      (follows.passed_fits u w su act fits_u (follows.passed_on t u w act next passes)) meet more in
      omega arith

-- a server that is further from its source than one link takes lines from another that is linked to
-- it, and does not take them from it
record IsOnward (links : List Link) (from : Streams) (t : Name) : Type 0 where
  linked : AreLinked links (from.parent t) t
  apart : t ≢ from.parent (from.parent t)

onward : (links : List Link) (source : Name → Name) → IsForest links → Covers links source
    → (t : Name) (k : ℕ) → (streams_from links source).depth ((streams_from links source).parent t)
    ≡ suc k → (streams_from links source).depth t ≡ suc (suc k)
    → IsOnward links (streams_from links source) t
onward links source forest covers t k above deep = record {
  linked = linked_back links t (toward links t (source t))
      (next_hop links t (source t) forest (covers.joined t) away).linked;
  apart = no_return links source forest covers t (toward links t (source t)) k refl above deep;
}
  where
    away : t ≢ source t
    away e =
        let none = ap (λ v. distance links v (source t)) e ∙ distance_self links (source t) in
        let no_way : ⊥ = omega arith in
        no_way

-- ---- an item that is begun

module _ {s : ItemSetting} {asks : Answering} {world : World} {source : Name → Name}
    {routes : Name → Known} {net : Network} {client : ℕ} {owed : List (List ℕ)}
    {part : Name → SideState} {deeds : Name → List Deed}
    (goes : IsGoingOn s asks world source routes net client owed part deeds) where
  in_turn : (t : Name) → ComesInTurn (machine s client) s.streams (relayed s net client) t
  in_turn t =
      subst (λ from. ComesInTurn (machine s client) from (relayed s net client) t)
      (sym goes.streams)
      (comes_in_turn (machine s client) world.links (streams_from world.links source)
      (relayed s net client) t (covers_flows world.links source goes.forest goes.covers))

  pub none_at_source : (t : Name) → s.streams.depth t ≡ 0
      → coming (machine s client) s.streams (relayed s net client) t ≡ []
  none_at_source t none =
      nothing_at_source (machine s client) s.streams (relayed s net client) t none

  pub next_is_under_way : (t : Name) → s.streams.depth t ≡ 1 → coming (machine s client) s.streams
      (relayed s net client) t ≡ under_way (relayed s net client) (s.streams.parent t) t
  next_is_under_way t one = by (in_turn t)
    where
      by : ComesInTurn (machine s client) s.streams (relayed s net client) t
          → coming (machine s client) s.streams (relayed s net client) t
          ≡ under_way (relayed s net client) (s.streams.parent t) t
      by (at_source none comes) = absurd (let no_way : ⊥ = omega arith in no_way)
      by (from_source first comes) = comes
      by (from_parent below deeper comes) = absurd (let no_way : ⊥ = omega arith in no_way)

  onward_here : (t : Name) (k : ℕ) → s.streams.depth (s.streams.parent t) ≡ suc k
      → s.streams.depth t ≡ suc (suc k) → IsOnward world.links s.streams t
  onward_here =
      subst (λ from. (t : Name) (k : ℕ) → from.depth (from.parent t) ≡ suc k
      → from.depth t ≡ suc (suc k) → IsOnward world.links from t)
      (sym goes.streams) (onward world.links source goes.forest goes.covers)

  -- what a server takes from another will tell on
  abbrev from_above : Name → List (List ℕ)
  from_above t =
      passed_on (machine s client) (s.streams.parent t) (s.streams.parent (s.streams.parent t))
      (view_at net (s.streams.parent t))
      (coming (machine s client) s.streams (relayed s net client) (s.streams.parent t)) t

  few_from_above : (t : Name) (k : ℕ) → s.streams.depth (s.streams.parent t) ≡ suc k
      → s.streams.depth t ≡ suc (suc k)
      → length (from_above t) ≤ length (deeds (s.streams.parent t))
  few_from_above t k above deep =
      told_most (machine s client) (play s client) (good_terms s asks world routes) world.links
      s.streams goes.follow (s.streams.parent (s.streams.parent t))
      (s.streams.parent t) t (onward_here t k above deep).linked
      (record { parent = refl; below = below })
      (record { parent = refl; below = omega arith }) (onward_here t k above deep).apart
      (part (s.streams.parent t)) (view_at net (s.streams.parent t)) (view_at net t)
      (deeds (s.streams.parent t))
      (coming (machine s client) s.streams (relayed s net client) (s.streams.parent t))
      (goes.begun.starts.fits (s.streams.parent t) below)
      (subst (λ w. (good_terms s asks world routes).fits t w (view_at net t))
      (goes.begun.starts.one_world t below next) (goes.begun.starts.fits t (omega arith)))
      (goes.begun.starts.meets t below next)
      (follows goes (s.streams.parent t) below).tells
    where
      below : 0 < s.streams.depth (s.streams.parent t)
      below = omega arith

      next : s.streams.depth t ≡ suc (s.streams.depth (s.streams.parent t))
      next = deep ∙ ap suc (sym above)

  pub deeper_are_few : (t : Name) → 1 < s.streams.depth t
      → length (coming (machine s client) s.streams (relayed s net client) t) ≤ length (deeds t)
  deeper_are_few t deep = by (in_turn t)
    where
      few : (n : ℕ) → s.streams.depth (s.streams.parent t) ≡ n → 0 < n → s.streams.depth t ≡ suc n
          → length (from_above t) ≤ length (deeds (s.streams.parent t))
      few zero above below next = absurd (let no_way : ⊥ = omega arith in no_way)
      few (suc k) above below next = few_from_above t k above next

      by : ComesInTurn (machine s client) s.streams (relayed s net client) t
          → length (coming (machine s client) s.streams (relayed s net client) t) ≤ length (deeds t)
      by (at_source none comes) = absurd (let no_way : ⊥ = omega arith in no_way)
      by (from_source first comes) = absurd (let no_way : ⊥ = omega arith in no_way)
      by (from_parent below deeper comes) =
          let all = ap length comes ∙ ap (λ lines. length (lines ++ from_above t))
          (goes.begun.starts.still t below deeper) in
          let told = few (s.streams.depth (s.streams.parent t)) refl below deeper in
          let list = ap length (goes.begun.starts.one_list t below deeper) in
          omega arith

-- where no line is answered, none counts twice
pub none_answered : (lines : List (List ℕ)) → count_by (λ line. false) lines ≡ 0
none_answered [] = refl
none_answered (line ∷ lines) = none_answered lines

pub none_pending : (m : Machine View (List ℕ) (List ℕ)) (streams : Streams)
    (net : RelayState View (List ℕ) (List ℕ)) (names : List Name)
    → lines_pending m streams net names
    no_answers.answered no_answers.one no_answers.other ≡ lines_coming m streams net names
none_pending m streams net names =
    both (lines_coming m streams net names) (none_answered (coming m streams net []))
  where
    both : (n : ℕ) {a : ℕ} → a ≡ 0 → n + a + a ≡ n
    both n {a} none = omega (none, arith)
