-- An item that is given from its sources: the servers at which it is given, and from which its
-- lines come. `Ends e o` says that e is one, and o the other, or e again where there is no other.
-- Who is joined to a source along `base` is of its side; a source is `first` links from where its
-- own lines come from.
use Rattle.std.proofs.Common.{◌≡◌, ◌≢◌, ◌⊎◌, ℕ, zero, suc, ◌+◌, ◌*◌, ◌-◌, ◌<◌, ◌≤◌, false, List, []}
use Rattle.std.proofs.Common.{length, count_by, refl, sym, ap, ◌∙◌, arith, inl, inr}
use Rattle.irc_merge.specs.Deeds.{Deed}
use Rattle.irc_relay.specs.Following.{Starts, Tells}
use Rattle.irc_relay.specs.Lemmas.TellingNames.{same_when}
use Rattle.irc_relay.specs.Links.{Name, Link, part, joined, same, AreJoined}
use Rattle.irc_relay.specs.Relay.{Streams, coming, lines_coming, under_way}
use Rattle.irc_relay.specs.Lemmas.LinkTakenOut.{tests_tell}
use Rattle.irc_routes.specs.Known.{Known}
use Rattle.irc_world.specs.World.{World, Hall}
use Rattle.irc_follow.specs.Fits.{Fits}
use Rattle.irc_follow.specs.SideState.{ItemSetting, SideState}
use Rattle.irc_follow.specs.Says.{machine, play}
use Rattle.irc_network.specs.Network.{Network}
use Rattle.irc_items.specs.GoodLines.{Answering}
use Rattle.irc_items.specs.Relayed.{relayed}
use Rattle.irc_items.specs.SetUp.{view_at}
use Rattle.irc_items.proofs.Common.Begun.{IsGoingOn}
use Rattle.irc_items.proofs.Common.Counting.{sides_most, sum_most_but, HasMost}
use Rattle.irc_items.proofs.Common.FewLines.{deeper_are_few, next_is_under_way, none_at_source}
use Rattle.irc_items.proofs.Good.GoodLines.{good_terms}

-- where a server is: at a source, behind one, or of another part
pub data Stands (Ends : Name → Name → Type 0) (base : List Link) (streams : Streams) (first : ℕ)
    (t : Name) : Type 0 where
  at_end : (o : Name) → Ends t o → streams.depth t ≡ first → Stands Ends base streams first t
  behind : (e o : Name) → Ends e o → AreJoined base t e → t ≢ e → AreJoined base
      (streams.parent t) e → first < streams.depth t → Stands Ends base streams first t
  aside : ((e o : Name) → Ends e o → AreJoined base t e → ⊥) → streams.depth t ≡ 0
      → Stands Ends base streams first t

-- who takes lines from another than a source takes them from one of its own side
pub taker_joined : {Ends : Name → Name → Type 0} {base : List Link} {streams : Streams}
    {first : ℕ} {t : Name} → Stands Ends base streams first t → first ≤ 1 → 1 < streams.depth t
    → AreJoined base t (streams.parent t)
taker_joined (at_end o ends depth) near deep = absurd (let no : ⊥ = omega arith in no)
taker_joined (behind e o ends on two above below) near deep = on ∙ sym above
taker_joined (aside none depth) near deep = absurd (let no : ⊥ = omega arith in no)

-- whoever takes lines is of the side of a source
pub record HasSource (Ends : Name → Name → Type 0) (base : List Link) (t : Name) : Type 0 where
  pub e : Name
  pub o : Name
  pub ends : Ends e o
  pub on : AreJoined base t e

pub source_of : {Ends : Name → Name → Type 0} {base : List Link} {streams : Streams} {first : ℕ}
    {t : Name} → Stands Ends base streams first t → 0 < streams.depth t → HasSource Ends base t
source_of {t = t} (at_end o ends depth) below = record { e = t; o = o; ends = ends; on = refl }
source_of (behind e o ends on two above deep) below = record { e = e; o = o; ends = ends; on = on }
source_of (aside none depth) below = absurd (let no : ⊥ = omega arith in no)

-- ---- how it starts

-- a side at one moment: who is joined to t along `base` is of it, and it knows whom t is joined to
-- along `known`
abbrev pub side_at : List Link → List Link → List Link → (Name → Known) → (Name → Hall)
    → Name → SideState
side_at base known forest routes hall t = record {
  tree = record {
    forest = forest;
    here = λ x. joined base x t;
    knows = λ x. joined known x t;
    routes = routes;
  };
  hall = hall t;
}

-- it is the same for each of its servers
pub one_moment : (base known forest : List Link) (routes : Name → Known) (hall : Name → Hall)
    (t p : Name) → AreJoined base t p → AreJoined known t p → hall t ≡ hall p
    → side_at base known forest routes hall t ≡ side_at base known forest routes hall p
one_moment base known forest routes hall t p on together one_hall i = record {
  tree = record {
    forest = forest;
    here = λ x. same (part base x) (on i);
    knows = λ x. same (part known x) (together i);
    routes = routes;
  };
  hall = one_hall i;
}

-- Each server takes the lines of one list of deeds with the rest of its side, from the same moment
-- of that.
pub record AreSides (base : List Link) (side : Name → SideState)
    (deeds : Name → List Deed) : Type 0 where
  pub one_side : (t p : Name) → AreJoined base t p → side t ≡ side p
  pub one_list : (t p : Name) → AreJoined base t p → deeds t ≡ deeds p

pub starts_from : {Ends : Name → Name → Type 0} {base : List Link} {first : ℕ} {s : ItemSetting}
    {side : Name → SideState} {deeds : Name → List Deed} (asks : Answering)
    (after : World) (routes : Name → Known) (new : Network) (client : ℕ)
    → ((t : Name) → Stands Ends base s.streams first t) → first ≤ 1
    → AreSides base side deeds
    → ((t : Name) → 0 < s.streams.depth t → Fits s t (side t) (view_at new t))
    → ((t : Name) → s.streams.depth t ≡ 1
    → Tells (machine s client) (play s client) (good_terms s asks after routes)
    (s.streams.parent t) t (side t) (view_at new t) (deeds t)
    (under_way (relayed s new client) (s.streams.parent t) t))
    → ((t : Name) → 0 < s.streams.depth (s.streams.parent t) → 1 < s.streams.depth t
    → under_way (relayed s new client) (s.streams.parent t) t ≡ [])
    → Starts (machine s client) (play s client) (good_terms s asks after routes) s.streams
    (relayed s new client) side deeds
starts_from {s = s} asks after routes new client stands near sides fits first still = record {
  first = first;
  still = λ t above deeper. still t above (omega arith);
  one_world = λ t above deeper. sides.one_side t (s.streams.parent t)
      (taker_joined (stands t) near (omega arith));
  one_list = λ t above deeper. sides.one_list t (s.streams.parent t)
      (taker_joined (stands t) near (omega arith));
  meets = λ t above deeper. tt;
  fits = fits;
}

-- ---- how many lines come

-- To a source come so many lines, `most`, and to whoever is behind it `each`.
pub record AreFew (Ends : Name → Name → Type 0) (base : List Link) (s : ItemSetting) (new : Network)
    (client : ℕ) (deeds : Name → List Deed)
    (most each : Name → Name → ℕ) : Type 0 where
  pub at_end : (e o : Name) → Ends e o
      → length (coming (machine s client) s.streams (relayed s new client) e) ≤ most e o
  pub next : (t e o : Name) → Ends e o → AreJoined base t e → t ≢ e → s.streams.depth t ≡ 1
      → length (under_way (relayed s new client) (s.streams.parent t) t) ≤ each e o
  pub told : (t e o : Name) → Ends e o → AreJoined base t e → length (deeds t) ≤ each e o

module _ {Ends : Name → Name → Type 0} {base : List Link} {first : ℕ} {s : ItemSetting}
    {asks : Answering}
    {world : World} {source : Name → Name}
    {routes : Name → Known} {net : Network} {client : ℕ} {owed : List (List ℕ)}
    {side : Name → SideState}
    {deeds : Name → List Deed} {most each : Name → Name → ℕ}
    (goes : IsGoingOn s asks world source routes net client owed side deeds)
    (stands : (t : Name) → Stands Ends base s.streams first t)
    (few : AreFew Ends base s net client deeds most each) where
  abbrev count : Name → ℕ
  count t = length (coming (machine s client) s.streams (relayed s net client) t)

  none_at : (t : Name) → s.streams.depth t ≡ 0 → count t ≡ 0
  none_at t none = ap (λ (lines : List (List ℕ)). length lines) (none_at_source goes t none)

  few_behind : (t e o : Name) → Ends e o → AreJoined base t e → t ≢ e → count t ≤ each e o
  few_behind t e o ends on two = by (s.streams.depth t) refl
    where
      by : (d : ℕ) → s.streams.depth t ≡ d → count t ≤ each e o
      by zero none = let nothing = none_at t none in omega arith
      by (suc zero) one =
          let is = ap (λ (lines : List (List ℕ)). length lines) (next_is_under_way goes t one) in
          let most = few.next t e o ends on two one in
          omega arith
      by (suc (suc d)) deep =
          let most = deeper_are_few goes t (omega arith) in
          let told_few = few.told t e o ends on in
          omega arith

  none_aside : (t : Name) → ((e o : Name) → Ends e o → AreJoined base t e → ⊥) → count t ≡ 0
  none_aside t away = by (stands t)
    where
      by : Stands Ends base s.streams first t → count t ≡ 0
      by (at_end o ends _) = absurd (away t o ends refl)
      by (behind e o ends on _ _ _) = absurd (away e o ends on)
      by (aside _ none) = none_at t none

  has_most : (names : List Name) (e o : Name) → Ends e o → count_by (same e) names ≡ 1
      → HasMost names (joined base e) e (most e o) (each e o) count
  has_most names e o ends once = record {
    there = same_when (part base e) (part base e) refl;
    once = once;
    most = few.at_end e o ends;
    others = λ t among two so. few_behind t e o ends (sym ((tests_tell base e t t).1.0 so)) two;
  }

  not_joined : (e t : Name) → joined base e t ≡ false → AreJoined base t e → ⊥
  not_joined e t so on = let no = sym ((tests_tell base e t t).1.1 (sym on)) ∙ so in cc no

  -- from one source
  pub few_from_one : (names : List Name) (h : Name) → Ends h h → ((e o : Name) → Ends e o → e ≡ h)
      → count_by (same h) names ≡ 1 → lines_coming (machine s client) s.streams
      (relayed s net client) names ≤ most h h + (count_by (joined base h) names - 1) * each h h
  few_from_one names h ends only once =
      sum_most_but names (joined base h) h (most h h) (each h h) count
      (has_most names h h ends once)
      (λ t among so. none_aside t
      (λ e o end on. not_joined h t so (on ∙ ap (part base) (only e o end))))

  -- from two
  pub few_from_two : (names : List Name) (near far : Name) → Ends near far
      → Ends far near → ((e o : Name) → Ends e o → (e ≡ near) ⊎ (e ≡ far))
      → count_by (same near) names ≡ 1 → count_by (same far) names ≡ 1
      → lines_coming (machine s client) s.streams (relayed s net client) names
      ≤ (most near far + (count_by (joined base near) names - 1) * each near far)
      + (most far near + (count_by (joined base far) names - 1) * each far near)
  few_from_two names near far one other only once_near once_far =
      sides_most names (joined base near) (joined base far) near far (most near far) (each near far)
      (most far near) (each far near) count
      (has_most names near far one once_near) (has_most names far near other once_far)
      (λ t among m n. none_aside t (λ e o end on. neither t m n on (only e o end)))
    where
      neither : {e : Name} (t : Name) → joined base near t ≡ false → joined base far t ≡ false
          → AreJoined base t e → (e ≡ near) ⊎ (e ≡ far) → ⊥
      neither t m n on (inl is) = not_joined near t m (on ∙ ap (part base) is)
      neither t m n on (inr is) = not_joined far t n (on ∙ ap (part base) is)
