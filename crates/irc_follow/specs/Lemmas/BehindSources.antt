-- Who is behind the source for the servers next to it is behind every parent.
use Rattle.std.proofs.Common.{◌≡◌, ◌≢◌, ◌<◌, ℕ, suc, true, List, refl, sym, ◌∙◌, ap, subst, arith}
use Rattle.irc_relay.specs.Links.{Name, Link, toward, distance, AreLinked, IsForest, IsKept}
use Rattle.irc_relay.specs.Links.{IsNextHop, OneWay, forth, return}
use Rattle.irc_relay.specs.Relay.{SourcesMeet, one, each_other, own}
use Rattle.irc_relay.specs.Lemmas.NextHops.{distance_self, next_hop, one_way}
use Rattle.irc_relay.specs.Lemmas.StreamsFlow.{along}
use Rattle.irc_follow.specs.SideState.{SideState}
use Rattle.irc_follow.specs.Relinked.{BehindSourceIsFar, FlowsAlong, OtherSources}

module _ (w : SideState) (links : List Link) (source : Name → Name)
    (forest : IsForest w.tree.forest)
    (flows : FlowsAlong links source w.tree) where
  abbrev pub depth : Name → ℕ
  depth t = distance links t (source t)

  abbrev pub parent : Name → Name
  parent t = toward links t (source t)

  away : (t : Name) → 0 < depth t → t ≢ source t
  away t some e =
      let none = ap (λ v. distance links v (source t)) e ∙ distance_self links (source t) in
      let never : ⊥ = omega arith in
      never

  -- a parent is linked by the links of the side
  pub parent_linked : (t : Name) → 0 < depth t → AreLinked w.tree.forest t (parent t)
  parent_linked t some =
      subst (λ v. AreLinked w.tree.forest t v) (sym kept.toward_same)
      (next_hop w.tree.forest t (source t) forest kept.joined (away t some)).linked
    where
      kept : IsKept links w.tree.forest t (source t)
      kept = flows.kept t (source t) (flows.covers.joined t)

  -- a server that is further from its source than one link is not its parent's parent
  no_way_round : (t : Name) → 0 < depth (parent t) → depth t ≡ suc (depth (parent t))
      → t ≢ parent (parent t)
  no_way_round t below deep round = by (flows.covers.linked t (parent t) hop.linked)
    where
      hop : IsNextHop links t (source t) (parent t)
      hop = next_hop links t (source t) flows.forest (flows.covers.joined t) (away t (omega arith))

      by : SourcesMeet source t (parent t) → ⊥
      by (one same_source) =
          let nearer = (next_hop links (parent t) (source (parent t)) flows.forest
          (flows.covers.joined (parent t)) (away (parent t) below)).nearer in
          let there = ap (λ v. distance links v (source (parent t))) (sym round) in
          let same_way = ap (λ v. distance links t v) same_source in
          let never : ⊥ = omega arith in
          never
      by (each_other it_is _) =
          let nearer = hop.nearer in
          let there =
          ap (λ v. distance links (parent t) v) it_is ∙ distance_self links (parent t) in
          let never : ⊥ = omega arith in
          never
      by (own it_is _) = away t (omega arith) (sym it_is)

pub other_sources : OtherSources
other_sources s w links source sound flows = record {
  tree = sound.tree;
  parents = λ t p takes.
      subst (λ v. AreLinked w.tree.forest t v) takes.parent
      (parent_linked w links source sound.tree.forest flows t takes.below);
  well = sound.well;
  within = sound.within;
  at_known = sound.at_known;
  registered = sound.registered;
}

pub behind_source_is_far : BehindSourceIsFar
behind_source_is_far s w links source x forest flows behind t p here takes =
    along links source IsBehind flows.forest flows.covers at_source beside further t here
    takes.below ∙ takes.parent
  where
    IsBehind : Name → Type 0
    IsBehind t = w.tree.here t ≡ true → 0 < distance links t (source t)
        → toward w.tree.forest t x ≡ toward links t (source t)

    at_source : (t : Name) → distance links t (source t) ≡ 0 → IsBehind t
    at_source t none here some = absurd (let never : ⊥ = omega arith in never)

    beside : (t : Name) → distance links t (source t) ≡ 1 → IsBehind t
    beside t next here some = behind.next t here next

    further : (t : Name) → 0 < distance links (toward links t (source t))
        (source (toward links t (source t))) → distance links t (source t)
        ≡ suc (distance links (toward links t (source t)) (source (toward links t (source t))))
        → IsBehind (toward links t (source t)) → IsBehind t
    further t below deep before here some =
        by (one_way w.tree.forest t next x forest (parent_linked w links source forest flows t some)
        (behind.joined t here))
      where
        next : Name
        next = toward links t (source t)

        by : OneWay w.tree.forest t next x → toward w.tree.forest t x ≡ next
        by (forth _ e) = e
        by (return _ e) =
            absurd (no_way_round w links source forest flows t below deep
            (sym e ∙ before (flows.inside t next here (record { parent = refl; below = some })
            (omega arith)) below))
