-- What a lost link parts: those who are still joined to one of its ends from those who are still
-- joined to the other.
use Rattle.std.proofs.Common.{◌≡◌, inl, inr, Bool, true, false, not, ◌&&◌, List, [], ◌∷◌, refl, sym}
use Rattle.std.proofs.Common.{◌∙◌, ap, subst}
use Rattle.std.proofs.lemmas.Bool.{and_from, and_parts}
use Rattle.std.specs.Cmp.{both_ways}
use Rattle.irc_relay.specs.Links.{Name, Link, part, joined, linked, links_without, AreJoined}
use Rattle.irc_relay.specs.Links.{AreLinked, HasEnds, IsForest, IsKept, IsLeft, Rejoins, still}
use Rattle.irc_relay.specs.Links.{parted, turned}
use Rattle.irc_relay.specs.Lemmas.TellingNames.{same_unless}
use Rattle.irc_relay.specs.Lemmas.NextHops.{linked_joined}
use Rattle.irc_relay.specs.Lemmas.LinkTakenOut.{Ending, ends, ending, linked_tells, passes, rejoins}
use Rattle.irc_relay.specs.Lemmas.LinkTakenOut.{taken_out, without-ends, without-passes}
use Rattle.irc_follow.specs.Lemmas.SideAtRest.{joined_so}
use Rattle.irc_follow.specs.Lemmas.BehindLinks.{joined_test}

-- a link is still there, or it is the lost one
pub data IsLeftOrLost (left : List Link) (a b t u : Name) : Type 0 where
  stays : AreLinked left t u → IsLeftOrLost left a b t u
  goes : t ≡ a → u ≡ b → IsLeftOrLost left a b t u
  goes_back : t ≡ b → u ≡ a → IsLeftOrLost left a b t u

-- a and b are the two ends of the lost link
pub record AreCutEnds (links left : List Link) (a b : Name) : Type 0 where
  pub forest : IsForest left
  pub apart : AreJoined left b a → ⊥
  pub kept : (t u : Name) → AreJoined left t u → IsKept left links t u
  pub rejoins : (t u : Name) → AreJoined links t u → Rejoins left a b t u
  pub before : (t u : Name) → AreLinked left t u → AreLinked links t u
  pub after : (t u : Name) → AreLinked links t u → IsLeftOrLost left a b t u

linked_before : (links : List Link) (a b t u : Name) → AreLinked (links_without links a b) t u
    → AreLinked links t u
unfolding links_without
linked_before [] a b t u linked = absurd linked
linked_before (l ∷ links) a b t u linked = by (ending l a b) (linked_before links a b t u)
  where
    older : AreLinked (l ∷ links_without links a b) t u → (AreLinked (links_without links a b) t u
        → AreLinked links t u) → AreLinked (l ∷ links) t u
    older (inl newest) rest = inl newest
    older (inr there) rest = inr (rest there)

    by : Ending l a b → (AreLinked (links_without links a b) t u → AreLinked links t u)
        → AreLinked (l ∷ links) t u
    by (ends is _) rest =
        inr (subst (λ left. AreLinked left t u) (without-ends l links a b is) linked)
    by (passes is _) rest =
        older (subst (λ left. AreLinked left t u) (without-passes l links a b is) linked) rest

linked_after : (links : List Link) (a b t u : Name) → AreLinked links t u
    → IsLeftOrLost (links_without links a b) a b t u
linked_after [] a b t u linked = absurd linked
linked_after (l ∷ links) a b t u linked = by (ending l a b) linked (linked_after links a b t u)
  where
    lost : HasEnds l a b → HasEnds l t u → IsLeftOrLost (links_without (l ∷ links) a b) a b t u
    lost (inl (near, far)) (inl (from, to)) = goes (sym from ∙ near) (sym to ∙ far)
    lost (inl (near, far)) (inr (to, from)) = goes_back (sym from ∙ far) (sym to ∙ near)
    lost (inr (far, near)) (inl (from, to)) = goes_back (sym from ∙ far) (sym to ∙ near)
    lost (inr (far, near)) (inr (to, from)) = goes (sym from ∙ near) (sym to ∙ far)

    one_more : IsLeftOrLost (links_without links a b) a b t u
        → IsLeftOrLost (l ∷ links_without links a b) a b t u
    one_more (stays there) = stays (inr there)
    one_more (goes from to) = goes from to
    one_more (goes_back from to) = goes_back from to

    by : Ending l a b → AreLinked (l ∷ links) t u
        → (AreLinked links t u → IsLeftOrLost (links_without links a b) a b t u)
        → IsLeftOrLost (links_without (l ∷ links) a b) a b t u
    by (ends is has) (inl newest) rest = lost has newest
    by (ends is has) (inr older) rest =
        stays (subst (λ left. AreLinked left t u) (sym (without-ends l links a b is)) older)
    by (passes is _) (inl newest) rest = stays
        (subst (λ left. AreLinked left t u) (sym (without-passes l links a b is)) (inl newest))
    by (passes is _) (inr older) rest =
        subst (λ left. IsLeftOrLost left a b t u) (sym (without-passes l links a b is))
        (one_more (rest older))

pub cut_ends : (links left : List Link) (a b : Name) → IsForest links → AreLinked links a b
    → links_without links a b ≡ left → AreCutEnds links left a b
cut_ends links left a b forest linked is = subst (λ now. AreCutEnds links now a b) is (record {
  forest = rest.forest;
  apart = λ one. rest.parted (sym one);
  kept = rest.kept;
  rejoins = λ t u one. rejoins links a b t u forest linked one;
  before = linked_before links a b;
  after = linked_after links a b;
})
  where
    rest : IsLeft (links_without links a b) links a b
    rest = taken_out links a b forest linked

module _ (links left : List Link) (a b : Name) (cut : AreCutEnds links left a b) where
  pub not_beyond : (t : Name) → AreJoined left t a → joined left b t ≡ false
  not_beyond t here = same_unless (part left b) (part left t) (λ there. cut.apart (there ∙ here))

  -- of those who were joined to a server of a's side, who is not on b's side still is
  pub side_joined : (x t : Name) → AreJoined left t a
      → (joined links x t && not (joined left b x)) ≡ joined left x t
  side_joined x t here = both_ways _ _ forth turn
    where
      forth : (joined links x t && not (joined left b x)) ≡ true → joined left x t ≡ true
      forth so =
          let parts = and_parts _ _ so in
          elim (cut.rejoins x t (joined_so links x t parts.0)) [
            | still one ↦ joined_test left x t one
            | parted _ over ↦ absurd (cut.apart (over ∙ here))
            | turned back _ ↦ absurd (let none = ap not (sym (joined_test left b x (sym back)))
                ∙ parts.1 in cc none)
          ]

      turn : joined left x t ≡ true → (joined links x t && not (joined left b x)) ≡ true
      turn so =
          let one = joined_so left x t so in
          and_from _ _ (joined_test links x t (cut.kept x t one).joined)
          (ap not (not_beyond x (one ∙ here)))

  -- links stay, but for the lost one
  pub linked_same : (t x : Name) → (t ≡ a → x ≡ b → ⊥) → (t ≡ b → x ≡ a → ⊥)
      → linked links t x ≡ linked left t x
  linked_same t x forth back =
      both_ways _ _
      (λ so. (linked_tells left t x).1 (there (cut.after t x ((linked_tells links t x).0 so))))
      (λ so. (linked_tells links t x).1 (cut.before t x ((linked_tells left t x).0 so)))
    where
      there : IsLeftOrLost left a b t x → AreLinked left t x
      there (stays still_linked) = still_linked
      there (goes from to) = absurd (forth from to)
      there (goes_back from to) = absurd (back from to)

  pub side_linked : (t x : Name) → AreJoined left t a → (t ≡ a → x ≡ b → ⊥)
      → linked links t x ≡ linked left t x
  side_linked t x here other =
      linked_same t x other (λ from to. cut.apart (ap (part left) (sym from) ∙ here))

  -- it is not there
  pub ends_unlinked : linked left a b ≡ false
  ends_unlinked = by (linked left a b) refl
    where
      by : (c : Bool) → linked left a b ≡ c → c ≡ false
      by true so = absurd (cut.apart (sym (linked_joined left a b ((linked_tells left a b).0 so))))
      by false so = refl

  -- a server that is joined to neither end
  module _ (t : Name) (not_near : AreJoined left t a → ⊥) (not_far : AreJoined left t b → ⊥) where
    pub aside_joined : (x : Name) → joined links x t ≡ joined left x t
    aside_joined x = both_ways _ _ forth
        (λ so. joined_test links x t (cut.kept x t (joined_so left x t so)).joined)
      where
        forth : joined links x t ≡ true → joined left x t ≡ true
        forth so = elim (cut.rejoins x t (joined_so links x t so)) [
          | still one ↦ joined_test left x t one
          | parted _ over ↦ absurd (not_far (sym over))
          | turned _ back ↦ absurd (not_near (sym back))
        ]

    pub aside_linked : (x : Name) → linked links t x ≡ linked left t x
    aside_linked x = linked_same t x (λ from to. not_near (ap (part left) from))
        (λ from to. not_far (ap (part left) from))
