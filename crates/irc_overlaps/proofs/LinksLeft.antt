-- Which links are left of a list without one of them.
use Rattle.std.proofs.Common.{◌≡◌, List, [], ◌∷◌, inl, inr, sym}
use Rattle.std.proofs.Common.{subst, ◌∙◌}
use Rattle.irc_relay.specs.Links.{Name, Link, AreLinked, HasEnds, links_without}
use Rattle.irc_relay.specs.Lemmas.LinkTakenOut.{Ending, ends, passes, ending, without-ends}
use Rattle.irc_relay.specs.Lemmas.LinkTakenOut.{without-passes}

-- who is linked by fewer was linked
left_by : (l : Link) (ls : List Link) (s t x y : Name) → Ending l s t
    → (AreLinked (links_without ls s t) x y → AreLinked ls x y)
    → AreLinked (links_without (l ∷ ls) s t) x y → AreLinked (l ∷ ls) x y
left_by l ls s t x y (ends e _) fewer h =
    inr (subst (λ left. AreLinked left x y) (without-ends l ls s t e) h)
left_by l ls s t x y (passes e _) fewer h =
    go (subst (λ left. AreLinked left x y) (without-passes l ls s t e) h)
  where
    go : AreLinked (l ∷ links_without ls s t) x y → AreLinked (l ∷ ls) x y
    go (inl p) = inl p
    go (inr p) = inr (fewer p)

pub left_linked : (ls : List Link) (s t x y : Name) → AreLinked (links_without ls s t) x y
    → AreLinked ls x y
unfolding links_without
left_linked [] s t x y h = h
left_linked (l ∷ ls) s t x y h = left_by l ls s t x y (ending l s t) (left_linked ls s t x y) h

-- the ends of one link are two servers alone
two_ends : (l : Link) (s t x y : Name) → HasEnds l s t → HasEnds l x y → (x ≡ s → y ≡ t → ⊥)
    → (x ≡ t → y ≡ s → ⊥) → ⊥
two_ends l s t x y (inl p) (inl q) m n = m (sym q.0 ∙ p.0) (sym q.1 ∙ p.1)
two_ends l s t x y (inl p) (inr q) m n = n (sym q.1 ∙ p.1) (sym q.0 ∙ p.0)
two_ends l s t x y (inr p) (inl q) m n = n (sym q.0 ∙ p.0) (sym q.1 ∙ p.1)
two_ends l s t x y (inr p) (inr q) m n = m (sym q.1 ∙ p.1) (sym q.0 ∙ p.0)

-- any other two stay linked
other_by : (l : Link) (ls : List Link) (s t x y : Name) → Ending l s t
    → (AreLinked ls x y → AreLinked (links_without ls s t) x y) → (x ≡ s → y ≡ t → ⊥)
    → (x ≡ t → y ≡ s → ⊥) → AreLinked (l ∷ ls) x y → AreLinked (links_without (l ∷ ls) s t) x y
other_by l ls s t x y (ends e p) rest m n (inl q) = absurd (two_ends l s t x y p q m n)
other_by l ls s t x y (ends e p) rest m n (inr h) =
    subst (λ left. AreLinked left x y) (sym (without-ends l ls s t e)) h
other_by l ls s t x y (passes e _) rest m n (inl q) =
    subst (λ left. AreLinked left x y) (sym (without-passes l ls s t e)) (inl q)
other_by l ls s t x y (passes e _) rest m n (inr h) =
    subst (λ left. AreLinked left x y) (sym (without-passes l ls s t e)) (inr (rest h))

pub others_linked : (ls : List Link) (s t x y : Name) → (x ≡ s → y ≡ t → ⊥)
    → (x ≡ t → y ≡ s → ⊥) → AreLinked ls x y → AreLinked (links_without ls s t) x y
others_linked [] s t x y m n h = absurd h
others_linked (l ∷ ls) s t x y m n h =
    other_by l ls s t x y (ending l s t) (others_linked ls s t x y m n) m n h
