-- Where lines come from, and how far, where one server is the source of its whole part.
use Rattle.std.proofs.Common.{◌≡◌, ◌≢◌, ◌⊎◌, ◌<◌, Bool, true, false, List, refl, sym, ap, subst}
use Rattle.std.proofs.Common.{◌∙◌, arith, inl, inr, if◌then◌else◌}
use Rattle.irc_relay.specs.Links.{Name, Link, part, joined, distance, toward, AreJoined, AreLinked}
use Rattle.irc_relay.specs.Links.{IsForest, IsNextHop}
use Rattle.irc_relay.specs.Relay.{streams_from, from_one}
use Rattle.irc_relay.specs.Lemmas.TellingNames.{Telling, alike, unlike, tell}
use Rattle.irc_relay.specs.Lemmas.StreamsFlow.{source_is_one}
use Rattle.irc_relay.specs.Lemmas.NextHops.{distance_self, distance_zero, linked_back, next_hop}
use Rattle.irc_relay.specs.Lemmas.LinkTakenOut.{tests_tell}
use Rattle.irc_items.proofs.Common.Sources.{Stands, at_end, behind, aside}

-- a server that lines come to over one link or more
pub record IsFartherFrom (links : List Link) (h t : Name) : Type 0 where
  pub joined_to : AreJoined links t h
  pub other : t ≢ h

pub record IsNextTo (links : List Link) (h t : Name) : Type 0 where
  pub parent : toward links t (from_one links h t) ≡ h
  pub linked_to : AreLinked links h t

module _ (links : List Link) (forest : IsForest links) (h : Name) where
  pub apart_source : (t : Name) → (AreJoined links t h → ⊥) → from_one links h t ≡ t
  apart_source t apart = by (joined links t h) refl
    where
      by : (b : Bool) → joined links t h ≡ b → from_one links h t ≡ t
      by true e = absurd (apart ((tests_tell links t h t).1.0 e))
      by false e = ap (λ b. if b then h else t) e

  pub home_depth : distance links h (from_one links h h) ≡ 0
  home_depth = ap (distance links h) (source_is_one links h h refl) ∙ distance_self links h

  pub apart_depth : (t : Name) → (AreJoined links t h → ⊥)
      → distance links t (from_one links h t) ≡ 0
  apart_depth t apart = ap (distance links t) (apart_source t apart) ∙ distance_self links t

  decide : (t : Name) → AreJoined links t h ⊎ (AreJoined links t h → ⊥)
  decide t = by (joined links t h) refl
    where
      by : (b : Bool) → joined links t h ≡ b → AreJoined links t h ⊎ (AreJoined links t h → ⊥)
      by true e = inl ((tests_tell links t h t).1.0 e)
      by false e = inr (λ j. let x = sym ((tests_tell links t h t).1.1 j) ∙ e in cc x)

  pub farther : (t : Name) → 0 < distance links t (from_one links h t) → IsFartherFrom links h t
  farther t below = by (decide t)
    where
      by : AreJoined links t h ⊎ (AreJoined links t h → ⊥) → IsFartherFrom links h t
      by (inl together) = record {
        joined_to = together;
        other = λ e. let z = ap (λ v. distance links v (from_one links h v)) e ∙ home_depth in
            omega arith;
      }
      by (inr apart) = let z = apart_depth t apart in absurd (omega arith)

  pub source_of_farther : (t : Name) → AreJoined links t h → from_one links h t ≡ h
  source_of_farther t together = source_is_one links h t together

  -- what is at no distance is the source, or of another part
  pub at_no_depth : (t : Name) → distance links t (from_one links h t) ≡ 0
      → (t ≡ h) ⊎ (AreJoined links t h → ⊥)
  at_no_depth t none = by (decide t)
    where
      by : AreJoined links t h ⊎ (AreJoined links t h → ⊥) → (t ≡ h) ⊎ (AreJoined links t h → ⊥)
      by (inl together) = inl (distance_zero links t h forest together
          (ap (distance links t) (sym (source_is_one links h t together)) ∙ none))
      by (inr apart) = inr apart

  pub next_to : (t : Name) → distance links t (from_one links h t) ≡ 1 → IsNextTo links h t
  next_to t one = record {
    parent = ap (toward links t) source ∙ sym back;
    linked_to = linked_back links t h (subst (AreLinked links t) (sym back) hop.linked);
  }
    where
      at : IsFartherFrom links h t
      at = farther t (omega arith)

      source : from_one links h t ≡ h
      source = source_is_one links h t at.joined_to

      hop : IsNextHop links t h (toward links t h)
      hop = next_hop links t h forest at.joined_to at.other

      near : distance links (toward links t h) h ≡ 0
      near = let e = hop.nearer in let d = ap (distance links t) (sym source) ∙ one in omega arith

      back : h ≡ toward links t h
      back = sym (distance_zero links (toward links t h) h forest hop.joined near)

  pub stands_from_one : (t : Name)
      → Stands (λ e o. e ≡ h) links (streams_from links (from_one links h)) 0 t
  stands_from_one t = by (decide t) (tell t h)
    where
      by : AreJoined links t h ⊎ (AreJoined links t h → ⊥) → Telling t h
          → Stands (λ e o. e ≡ h) links (streams_from links (from_one links h)) 0 t
      by joined (alike _ e) =
          at_end h e (ap (λ v. distance links v (from_one links h v)) e ∙ home_depth)
      by (inl on) (unlike _ two) =
          let hop = next_hop links t h forest on two in
          let away = ap (distance links t) (source_is_one links h t on) in
          behind h h refl on two (subst (λ v. AreJoined links (toward links t v) h)
          (sym (source_is_one links h t on)) hop.joined)
          (let nearer = hop.nearer in omega arith)
      by (inr apart) (unlike _ two) =
          aside (λ e o is on. apart (on ∙ ap (part links) is)) (apart_depth t apart)
