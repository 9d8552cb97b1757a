-- What a new link joins: those who were joined to one of its ends with those who were joined to the
-- other.
use Rattle.std.proofs.Common.{◌≡◌, ◌≢◌, ◌⊎◌, inl, inr, true, ◌||◌, List, ◌∷◌, refl}
use Rattle.std.proofs.Common.{sym, ◌∙◌, ap}
use Rattle.std.proofs.lemmas.Bool.{or_left, or_right, or_cases}
use Rattle.std.specs.Cmp.{both_ways}
use Rattle.irc_relay.specs.Links.{Name, Link, part, joined, linked, AreJoined, AreLinked, IsForest}
use Rattle.irc_relay.specs.Links.{IsMade, within, over, back}
use Rattle.irc_relay.specs.Lemmas.LinkTakenOut.{linked_tells, made}
use Rattle.irc_follow.specs.Lemmas.SideAtRest.{joined_so}
use Rattle.irc_follow.specs.Lemmas.BehindLinks.{joined_test}

-- a and b are the two ends
pub record AreEnds (l : Link) (links : List Link) (a b : Name) : Type 0 where
  pub linked : AreLinked (l ∷ links) b a
  pub apart : AreJoined links b a → ⊥
  pub joined : (x t : Name) → AreJoined links t a
      → joined (l ∷ links) x t ≡ (joined links x a || joined links x b)

module _ (l : Link) (links : List Link) (forest : IsForest links)
    (apart : part links l.near ≢ part links l.far) where
  more : IsMade l links
  more = made l links forest apart

  -- where whoever is joined to one of a's side then is joined to a or to b before, and whoever was
  -- joined to b is then
  of_side : (a b : Name) → ((x t : Name) → AreJoined links t a → AreJoined (l ∷ links) x t
      → AreJoined links x a ⊎ AreJoined links x b) → ((x t : Name) → AreJoined links x b
      → AreJoined links a t → AreJoined (l ∷ links) x t) → (x t : Name) → AreJoined links t a
      → joined (l ∷ links) x t ≡ (joined links x a || joined links x b)
  of_side a b meets crossed x t here = both_ways _ _ forth turn
    where
      forth : joined (l ∷ links) x t ≡ true → (joined links x a || joined links x b) ≡ true
      forth so = elim (meets x t here (joined_so (l ∷ links) x t so)) [
        | inl one ↦ or_left _ _ (joined_test links x a one)
        | inr other ↦ or_right _ _ (joined_test links x b other)
      ]

      turn : (joined links x a || joined links x b) ≡ true → joined (l ∷ links) x t ≡ true
      turn so = elim (or_cases _ _ so) [
        | inl one ↦ joined_test (l ∷ links) x t
            ((more.kept x t (joined_so links x a one ∙ sym here)).joined)
        | inr other ↦ joined_test (l ∷ links) x t
            (crossed x t (joined_so links x b other) (sym here))
      ]

  near_joined : (x t : Name) → AreJoined links t l.near
      → joined (l ∷ links) x t ≡ (joined links x l.near || joined links x l.far)
  near_joined = of_side l.near l.far
      (λ x t here so. elim (more.meets x t so) [
        | within one ↦ inl (one ∙ here)
        | over one other ↦ inl one
        | back one other ↦ inr one
      ])
      more.back_joined

  far_joined : (x t : Name) → AreJoined links t l.far
      → joined (l ∷ links) x t ≡ (joined links x l.far || joined links x l.near)
  far_joined = of_side l.far l.near
      (λ x t there so. elim (more.meets x t so) [
        | within one ↦ inl (one ∙ there)
        | over one other ↦ inr one
        | back one other ↦ inl one
      ])
      more.over_joined

  pub near_ends : AreEnds l links l.near l.far
  near_ends = record {
    linked = inl (inr (refl, refl));
    apart = λ one. apart (sym one);
    joined = near_joined;
  }

  pub far_ends : AreEnds l links l.far l.near
  far_ends =
      record { linked = inl (inl (refl, refl)); apart = λ one. apart one; joined = far_joined }

  -- a server that is joined to neither end
  module _ (t : Name) (not_near : AreJoined links t l.near → ⊥)
      (not_far : AreJoined links t l.far → ⊥) where
    pub aside_joined : (x : Name) → joined (l ∷ links) x t ≡ joined links x t
    aside_joined x = both_ways _ _ forth
        (λ so. joined_test (l ∷ links) x t ((more.kept x t (joined_so links x t so)).joined))
      where
        forth : joined (l ∷ links) x t ≡ true → joined links x t ≡ true
        forth so = elim (more.meets x t (joined_so (l ∷ links) x t so)) [
          | within one ↦ joined_test links x t one
          | over one other ↦ absurd (not_far (sym other))
          | back one other ↦ absurd (not_near (sym other))
        ]

    pub aside_linked : (x : Name) → AreLinked (l ∷ links) t x → AreLinked links t x
    aside_linked x (inl (inl (near, far))) = absurd (not_near (ap (part links) (sym near)))
    aside_linked x (inl (inr (near, far))) = absurd (not_far (ap (part links) (sym far)))
    aside_linked x (inr linked) = linked

    pub aside_links : (x : Name) → linked (l ∷ links) t x ≡ linked links t x
    aside_links x = both_ways _ _
        (λ so. (linked_tells links t x).1 (aside_linked x ((linked_tells (l ∷ links) t x).0 so)))
        (λ so. (linked_tells (l ∷ links) t x).1 (inr ((linked_tells links t x).0 so)))
