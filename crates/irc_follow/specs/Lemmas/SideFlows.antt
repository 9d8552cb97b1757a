-- How lines come to the sides of what is given to a network, and who is behind their sources.
use Rattle.std.proofs.Common.{◌≡◌, ◌≢◌, ◌<◌, ℕ, suc, true, List, ◌∷◌, refl, sym, ◌∙◌, ap, subst}
use Rattle.std.proofs.Common.{arith, if◌then◌else◌}
use Rattle.irc_relay.specs.Links.{Name, Link, part, toward, distance, links_without, AreJoined}
use Rattle.irc_relay.specs.Links.{AreLinked, IsForest, IsLeft, IsMade, IsNextHop, OneWay, forth}
use Rattle.irc_relay.specs.Links.{return}
use Rattle.irc_relay.specs.Relay.{streams_from, from_near_end, from_one, from_other_end, MeetOver}
use Rattle.irc_relay.specs.Relay.{TakesFrom}
use Rattle.irc_relay.specs.Lemmas.TellingNames.{Telling, alike, unlike, tell, same_when}
use Rattle.irc_relay.specs.Lemmas.NextHops.{distance_self, distance_zero, linked_back}
use Rattle.irc_relay.specs.Lemmas.NextHops.{linked_joined, linked_other, next_hop, one_way}
use Rattle.irc_relay.specs.Lemmas.NextHops.{toward_linked}
use Rattle.irc_relay.specs.Lemmas.StreamsFlow.{ends_meet, near_ends_cover, one_covers}
use Rattle.irc_relay.specs.Lemmas.StreamsFlow.{other_ends_cover, source_is_one, sources_are}
use Rattle.irc_relay.specs.Lemmas.LinkTakenOut.{beyond, made, taken_out, without_turned}
use Rattle.irc_follow.specs.Tree.{Tree}
use Rattle.irc_follow.specs.Relinked.{with_links}
use Rattle.irc_follow.specs.SideFlows.{CutOnceLost, FarSideIsTold, IsSide, IsToldOf, NearSideIsTold}
use Rattle.irc_follow.specs.SideFlows.{OneSideIsLeft, OtherSideIsLeft, SourceTells}

-- ---- a side with one source, which is of it

module _ (links : List Link) (source : Name → Name) (tree : Tree) (e : Name)
    (forest : IsForest links) (side : IsSide links e tree)
    (is : (t : Name) → AreJoined links t e → source t ≡ e) where
  source_here : (t : Name) → tree.here t ≡ true → source t ≡ e
  source_here t here = is t ((side t).0 here)

  -- whoever is not the source is a link further than the next toward it
  next_to : (t : Name) → tree.here t ≡ true → 0 < distance links t (source t)
      → IsNextHop links t e (toward links t e)
  next_to t here some = next_hop links t e forest ((side t).0 here) away
    where
      away : t ≢ e
      away it_is =
          let none = ap (λ v. distance links v (source t)) (it_is ∙ sym (source_here t here))
          ∙ distance_self links (source t) in
          let never : ⊥ = omega arith in
          never

  pub inside_one : (t p : Name) → tree.here t ≡ true → TakesFrom (streams_from links source) t p
      → 1 < distance links t (source t) → tree.here p ≡ true
  inside_one t p here takes far =
      (side p).1 (subst (λ v. AreJoined links v e) (ap (λ v. toward links t v)
      (sym (source_here t here)) ∙ takes.parent) (next_to t here takes.below).joined)

  -- one that is next to the source is linked to it
  pub beside_source : (t : Name) → tree.here t ≡ true → distance links t (source t) ≡ 1
      → AreLinked links t e
  beside_source t here next =
      subst (λ v. AreLinked links t v)
      (distance_zero links (toward links t e) e forest hop.joined none) hop.linked
    where
      hop : IsNextHop links t e (toward links t e)
      hop = next_to t here (omega (arith, next))

      none : distance links (toward links t e) e ≡ 0
      none =
          let nearer = hop.nearer in
          let one_link = ap (λ v. distance links t v) (sym (source_here t here)) ∙ next in
          omega arith

pub source_tells : SourceTells
source_tells tree a forest side = record {
  along = record {
    forest = forest;
    kept = λ t u joined. record { joined = joined; toward_same = refl; distance_same = refl };
    covers = one_covers tree.forest a;
    inside = λ t p here takes far. inside_one tree.forest
        (from_one tree.forest a) tree a forest side is t p here takes far;
  };
  behind = record {
    joined = λ t here. (side t).0 here;
    next = λ t here next. ap (λ v. toward tree.forest t v) (sym (is t ((side t).0 here)));
  };
}
  where
    is : (t : Name) → AreJoined tree.forest t a → from_one tree.forest a t ≡ a
    is t joined = source_is_one tree.forest a t joined

-- ---- a lost link

module _ (tree : Tree) (a b x : Name) (forest : IsForest tree.forest)
    (linked : AreLinked tree.forest a b) where
  abbrev pub links : List Link
  links = links_without tree.forest a b

  left : IsLeft links tree.forest a b
  left = taken_out tree.forest a b forest linked

  -- e is the end whose side this is, and o the other, with x
  module _ (e o : Name) (side : IsSide links e tree) (behind : AreJoined links x o)
      (apart : AreJoined links e o → ⊥) (ends : AreLinked tree.forest e o)
      (is : (t : Name) → AreJoined links t e → from_near_end links a b t ≡ e)
      (over : toward tree.forest e x ≡ o) where
    joined_to : (t : Name) → AreJoined links t e → AreJoined tree.forest t x
    joined_to t on = (left.kept t e on).joined ∙ linked_joined tree.forest e o ends
        ∙ sym (left.kept x o behind).joined

    still_linked : (t : Name) → AreLinked links t e → AreLinked tree.forest t e
    still_linked t near =
        subst (λ v. AreLinked tree.forest t v)
        (sym (left.kept t e on).toward_same ∙ toward_linked links t e left.forest near)
        (next_hop tree.forest t e forest (left.kept t e on).joined away).linked
      where
        on : AreJoined links t e
        on = linked_joined links t e near

        away : t ≢ e
        away = linked_other links t e left.forest near

    pub told_side : IsToldOf links (from_near_end links a b) tree x
    told_side = record {
      along = record {
        forest = left.forest;
        kept = left.kept;
        covers = near_ends_cover links a b;
        inside = λ t p here takes far. inside_one links
            (from_near_end links a b) tree e left.forest side is t p here takes far;
      };
      behind = record {
        joined = λ t here. joined_to t ((side t).0 here);
        next = λ t here next. next_is t here
            (beside_source links (from_near_end links a b) tree e left.forest side is t here next);
      };
    }
      where
        next_is : (t : Name) → tree.here t ≡ true → AreLinked links t e
            → toward tree.forest t x ≡ toward links t (from_near_end links a b t)
        next_is t here near = by
            (one_way tree.forest t e x forest (still_linked t near) (joined_to t ((side t).0 here)))
          where
            by : OneWay tree.forest t e x
                → toward tree.forest t x ≡ toward links t (from_near_end links a b t)
            by (forth _ it) = it ∙ sym (ap (λ v. toward links t v) (is t ((side t).0 here))
                ∙ toward_linked links t e left.forest near)
            by (return _ it) =
                absurd (apart (sym ((side t).0 here) ∙ ap (part links) (sym it ∙ over)))

pub one_side_is_left : OneSideIsLeft
one_side_is_left tree a b x forest linked side behind =
    told_side tree a b x forest linked a b side behind parted linked
    (λ t on. ((sources_are (links_without tree.forest a b) a b t parted).0 on).2)
    (beyond tree.forest b a x forest (linked_back tree.forest a b linked)
    (subst (λ links. AreJoined links x b) (without_turned tree.forest a b) behind))
  where
    parted : AreJoined (links_without tree.forest a b) a b → ⊥
    parted = (taken_out tree.forest a b forest linked).parted

pub other_side_is_left : OtherSideIsLeft
other_side_is_left tree a b x forest linked side behind =
    told_side tree a b x forest linked b a side behind (λ one. parted (sym one))
    (linked_back tree.forest a b linked)
    (λ t on. ((sources_are (links_without tree.forest a b) a b t parted).1 on).1)
    (beyond tree.forest a b x forest linked behind)
  where
    parted : AreJoined (links_without tree.forest a b) a b → ⊥
    parted = (taken_out tree.forest a b forest linked).parted

pub cut_once_lost : CutOnceLost
cut_once_lost tree a b end linked side known =
    record { linked = linked; still = λ t x here knows. (side t).0 here ∙ sym (known x knows) }

-- ---- a new link

module _ (l : Link) (links : List Link) (tree : Tree) (x : Name)
    (forest : IsForest (l ∷ links)) where
  abbrev pub source : Name → Name
  source = from_other_end links l.near l.far

  -- e is the end whose side this is, and o the other, with x
  module _ (e o : Name) (side : IsSide links e tree) (depth : distance (l ∷ links) e (source e) ≡ 1)
      (parent : toward (l ∷ links) e (source e) ≡ o)
      (deeper : (t : Name) → AreJoined links t e → t ≢ e
      → (toward (l ∷ links) t (source t) ≡ toward links t e)
      × (distance (l ∷ links) t (source t) ≡ suc (distance links t e)))
      (joined_to : (t : Name) → AreJoined links t e → AreJoined (l ∷ links) t x)
      (over : toward (l ∷ links) e x ≡ o) where
    inside_now : (t p : Name) → tree.here t ≡ true → TakesFrom (streams_from (l ∷ links) source) t p
        → 1 < distance (l ∷ links) t (source t) → tree.here p ≡ true
    inside_now t p here takes far = by (tell t e)
      where
        on : AreJoined links t e
        on = (side t).0 here

        by : Telling t e → tree.here p ≡ true
        by (alike _ it_is) =
            let one_link = ap (λ v. distance (l ∷ links) v (source v)) it_is ∙ depth in
            absurd (let never : ⊥ = omega arith in never)
        by (unlike _ away) =
            (side p).1 (subst (λ v. AreJoined links v e) (sym (deeper t on away).0 ∙ takes.parent)
            (next_hop links t e forest.1 on away).joined)

    next_now : (t : Name) → tree.here t ≡ true → distance (l ∷ links) t (source t) ≡ 1
        → toward (l ∷ links) t x ≡ toward (l ∷ links) t (source t)
    next_now t here next = by (tell t e)
      where
        on : AreJoined links t e
        on = (side t).0 here

        by : Telling t e → toward (l ∷ links) t x ≡ toward (l ∷ links) t (source t)
        by (alike _ it_is) = subst (λ v. toward (l ∷ links) v x ≡ toward (l ∷ links) v (source v))
            (sym it_is) (over ∙ sym parent)
        by (unlike _ away) = absurd (away (distance_zero links t e forest.1 on
            (none (distance links t e) (sym (deeper t on away).1 ∙ next))))
          where
            none : (n : ℕ) → suc n ≡ 1 → n ≡ 0
            none n is = omega arith

    pub told_over : IsToldOf (l ∷ links) source (with_links (l ∷ links) tree) x
    told_over = record {
      along = record {
        forest = forest;
        kept = λ t u joined. record { joined = joined; toward_same = refl; distance_same = refl };
        covers = other_ends_cover l links forest;
        inside = inside_now;
      };
      behind = record { joined = λ t here. joined_to t ((side t).0 here); next = next_now };
    }

pub near_side_is_told : NearSideIsTold
near_side_is_told l links tree x forest side behind =
    told_over l links tree x forest l.near l.far side meet.near_depth meet.near_parent
    meet.near_side
    (λ t on. more.over_joined t x on behind)
    (more.over_toward l.near x refl behind ∙ ap (λ b. if b then l.far
    else toward links l.near l.near) (same_when l.near l.near refl))
  where
    more : IsMade l links
    more = made l links forest.1 forest.0

    meet : MeetOver l links (streams_from (l ∷ links) (from_other_end links l.near l.far))
    meet = ends_meet l links forest

pub far_side_is_told : FarSideIsTold
far_side_is_told l links tree x forest side behind =
    told_over l links tree x forest l.far l.near side meet.far_depth meet.far_parent meet.far_side
    (λ t on. more.back_joined t x on behind)
    (more.back_toward l.far x refl behind
    ∙ ap (λ b. if b then l.near else toward links l.far l.far) (same_when l.far l.far refl))
  where
    more : IsMade l links
    more = made l links forest.1 forest.0

    meet : MeetOver l links (streams_from (l ∷ links) (from_other_end links l.near l.far))
    meet = ends_meet l links forest
