-- An end that is gone, a link that begins, and a line more on its way leave what links and ends
-- have to do with one another.
use Rattle.std.proofs.Common.{◌≡◌, ◌≢◌, ℕ, Option, Some, None, List, [], ◌∷◌, ◌++◌, inl, inr}
use Rattle.std.proofs.Common.{refl, sym, ap, subst, ◌∙◌}
use Rattle.irc_relay.specs.Links.{Name, Link, part, AreLinked, links_without}
use Rattle.irc_relay.specs.Lemmas.LinkTakenOut.{taken_out}
use Rattle.irc_relay.specs.Lemmas.NextHops.{linked_joined, linked_other, linked_back}
use Rattle.irc_overlaps.specs.Networks.{Net, EndAt, end_at, with_at, AreOneLink, far_end}
use Rattle.irc_overlaps.specs.Networks.{links_apart, without_end, joining, sending, with_coming}
use Rattle.irc_overlaps.specs.Rest.{AreSound, HasNumbers, IsSound}
use Rattle.irc_overlaps.proofs.AtEnds.{AtEnd, at_it, at_other, at_end, with_at-it, with_at-other}
use Rattle.irc_overlaps.proofs.AtEnds.{one_end, no_end, turned, renamed, reaches}
use Rattle.irc_overlaps.proofs.AtEnds.{reaches_none, reaching}
use Rattle.irc_overlaps.proofs.LinksLeft.{left_linked, others_linked}

-- the two ends of a link are of two servers
pub far_apart : (net : Net) → IsSound net → (s t : Name) (n m : ℕ) → AreOneLink net.other s n t m
    → s ≢ t
far_apart net sound s t n m one =
    linked_other net.links s t sound.forest (sound.linked s t n m one)

-- ---- an end that is gone

module _ (net : Net) (sound : IsSound net) (s : Name) (n : ℕ) where
  abbrev gone : Name → ℕ → Option EndAt
  gone = with_at s n None net.other

  -- it is the other one of none
  gone_forth : (x : Name) (k : ℕ) (y : Name) (l : ℕ) → gone x k ≡ Some (end_at y l)
      → (net.other x k ≡ Some (end_at y l)) × (x ≡ s → k ≡ n → ⊥)
  gone_forth x k y l e = elim (at_end s n x k) [
    | at_it _ f g ↦ absurd (no_end (gone x k) y l (with_at-it s n None net.other x k f g) e)
    | at_other _ o ↦ (sym (with_at-other s n None net.other x k o) ∙ e, o)
  ]

  gone_one : (x : Name) (k : ℕ) (y : Name) (l : ℕ) → AreOneLink gone x k y l
      → AreOneLink net.other x k y l
  gone_one x k y l one = record {
    forth = (gone_forth x k y l one.forth).0;
    back = (gone_forth y l x k one.back).0;
  }

  kept_one : (x : Name) (k : ℕ) (y : Name) (l : ℕ) → (x ≡ s → k ≡ n → ⊥) → (y ≡ s → l ≡ n → ⊥)
      → AreOneLink net.other x k y l → AreOneLink gone x k y l
  kept_one x k y l o p one = record {
    forth = with_at-other s n None net.other x k o ∙ one.forth;
    back = with_at-other s n None net.other y l p ∙ one.back;
  }

  gone_coming : (x : Name) (k : ℕ) → gone x k ≡ None → with_at s n [] net.coming x k ≡ []
  gone_coming x k e = elim (at_end s n x k) [
    | at_it _ f g ↦ with_at-it s n [] net.coming x k f g
    | at_other _ o ↦ with_at-other s n [] net.coming x k o
        ∙ sound.none_coming x k (sym (with_at-other s n None net.other x k o) ∙ e)
  ]

  gone_single : (x y : Name) (k l i j : ℕ) → AreOneLink gone x k y l → AreOneLink gone x i y j
      → k ≡ i
  gone_single x y k l i j a b =
      sound.one x y k l i j (gone_one x k y l a) (gone_one x i y j b)

  -- it had no other one: the links are as they were
  without_loose : ((t : Name) (m : ℕ) → AreOneLink net.other s n t m → ⊥)
      → AreSound net.links gone (with_at s n [] net.coming)
  without_loose none = record {
    forest = sound.forest;
    numbers = λ x y h. let have = sound.numbers x y h in record {
      near = have.near;
      far = have.far;
      are_one = kept_one x have.near y have.far
          (λ e f. none y have.far (renamed net.other s x n have.near y have.far e f have.are_one))
          (λ e f. none x have.near (renamed net.other s y n have.far x have.near e f
          (turned net.other x have.near y have.far have.are_one)))
          have.are_one;
    };
    linked = λ x y k l one. sound.linked x y k l (gone_one x k y l one);
    one = gone_single;
    none_coming = gone_coming;
  }

  -- it had one: that link is none
  module _ (t : Name) (m : ℕ) (whole : AreOneLink net.other s n t m) where
    abbrev left : List Link
    left = links_without net.links s t

    are_linked : AreLinked net.links s t
    are_linked = sound.linked s t n m whole

    parted : AreLinked left s t → ⊥
    parted h = (taken_out net.links s t sound.forest are_linked).parted (linked_joined left s t h)

    not_near : (x y : Name) (k l : ℕ) → AreLinked left x y → AreOneLink net.other x k y l
        → x ≡ s → k ≡ n → ⊥
    not_near x y k l h one e f =
        let here = renamed net.other s x n k y l e f one in
        let far = one_end (net.other s n) y l t m here.forth whole.forth in
        parted (subst (λ v. AreLinked left s v) far.0 (subst (λ v. AreLinked left v y) e h))

    -- no other link is between the two
    is_gone : (x y : Name) (k l : ℕ) → AreOneLink gone x k y l → x ≡ s → y ≡ t → ⊥
    is_gone x y k l one e f =
        let was = gone_one x k y l one in
        let here = renamed net.other s x k k y l e refl was in
        let there = turned net.other t l s k (renamed net.other t y l l s k f refl
        (turned net.other s k y l here)) in
        (gone_forth x k y l one.forth).1 e (sound.one s t k l n m there whole)

    without_whole : AreSound left gone (with_at s n [] net.coming)
    without_whole = record {
      forest = (taken_out net.links s t sound.forest are_linked).forest;
      numbers = λ x y h.
          let have = sound.numbers x y (left_linked net.links s t x y h) in record {
            near = have.near;
            far = have.far;
            are_one = kept_one x have.near y have.far
                (not_near x y have.near have.far h have.are_one)
                (not_near y x have.far have.near (linked_back left x y h)
                (turned net.other x have.near y have.far have.are_one))
                have.are_one;
          };
      linked = λ x y k l one. others_linked net.links s t x y (is_gone x y k l one)
          (λ e f. is_gone y x l k (turned gone x k y l one) f e)
          (sound.linked x y k l (gone_one x k y l one));
      one = gone_single;
      none_coming = gone_coming;
    }

pub without_end_sound : (net : Net) → IsSound net → (s : Name) (n : ℕ)
    → IsSound (without_end s n net)
without_end_sound net sound s n = elim (reaching net s n) [
  | reaches t m e one ↦
      subst (λ far. AreSound (links_apart net.links s far) (with_at s n None net.other)
      (with_at s n [] net.coming)) (sym e) (without_whole net sound s n t m one)
  | reaches_none e none ↦
      subst (λ far. AreSound (links_apart net.links s far) (with_at s n None net.other)
      (with_at s n [] net.coming)) (sym e) (without_loose net sound s n none)
]

-- ---- a line more on its way

pub sending_sound : (net : Net) → IsSound net → (s : Name) (n : ℕ) (line : List ℕ)
    → IsSound (sending (far_end net s n) line net)
sending_sound net sound s n line = elim (reaching net s n) [
  | reaches t m e one ↦ subst (λ far. IsSound (sending far line net)) (sym e) (record {
    forest = sound.forest;
    numbers = sound.numbers;
    linked = sound.linked;
    one = sound.one;
    none_coming = λ x k f. with_at-other t m (net.coming t m ++ line ∷ []) net.coming x k
        (λ g h. no_end (net.other x k) s n f
        (ap (λ v. net.other v k) g ∙ ap (net.other t) h ∙ one.back))
        ∙ sound.none_coming x k f;
  })
  | reaches_none e none ↦ subst (λ far. IsSound (sending far line net)) (sym e) sound
]

-- what is on its way to an end that is there is less
pub fewer_sound : (net : Net) → IsSound net → (s : Name) (n : ℕ) (line : List ℕ)
    (more : List (List ℕ)) → net.coming s n ≡ line ∷ more → IsSound (with_coming s n more net)
fewer_sound net sound s n line more e = record {
  forest = sound.forest;
  numbers = sound.numbers;
  linked = sound.linked;
  one = sound.one;
  none_coming = λ x k f. elim (at_end s n x k) [
    | at_it _ g h ↦
        let empty = ap (λ v. net.coming v n) (sym g) ∙ ap (net.coming x) (sym h)
        ∙ sound.none_coming x k f in
        let never = sym e ∙ empty in cc
    | at_other _ o ↦ with_at-other s n more net.coming x k o ∙ sound.none_coming x k f
  ];
}

-- ---- a link that begins

module _ (net : Net) (sound : IsSound net) (s t : Name) (n m : ℕ)
    (apart : part net.links s ≢ part net.links t) (near_free : net.other s n ≡ None)
    (far_free : net.other t m ≡ None)
  where
    two : s ≢ t
    two e = apart (ap (part net.links) e)

    abbrev far_made : Name → ℕ → Option EndAt
    far_made = with_at t m (Some (end_at s n)) net.other

    abbrev made : Name → ℕ → Option EndAt
    made = with_at s n (Some (end_at t m)) far_made

    at_near : (x : Name) (k : ℕ) → x ≡ s → k ≡ n → made x k ≡ Some (end_at t m)
    at_near x k e f = with_at-it s n (Some (end_at t m)) far_made x k e f

    at_far : (x : Name) (k : ℕ) → x ≡ t → k ≡ m → made x k ≡ Some (end_at s n)
    at_far x k e f =
        with_at-other s n (Some (end_at t m)) far_made x k (λ g h. two (sym g ∙ e))
        ∙ with_at-it t m (Some (end_at s n)) net.other x k e f

    elsewhere : (x : Name) (k : ℕ) → (x ≡ s → k ≡ n → ⊥) → (x ≡ t → k ≡ m → ⊥)
        → made x k ≡ net.other x k
    elsewhere x k o p =
        with_at-other s n (Some (end_at t m)) far_made x k o
        ∙ with_at-other t m (Some (end_at s n)) net.other x k p

    -- an end that is there is none of the two that are new
    not_new : (v w : Name) (i j : ℕ) (x : Name) (k : ℕ) → net.other v i ≡ None
        → net.other w j ≡ Some (end_at x k) → w ≡ v → j ≡ i → ⊥
    not_new v w i j x k free there e f =
        no_end (net.other v i) x k free (ap (λ v. net.other v i) (sym e) ∙ ap (net.other w) (sym f)
        ∙ there)

    kept : (x : Name) (k : ℕ) (y : Name) (l : ℕ) → AreOneLink net.other x k y l
        → AreOneLink made x k y l
    kept x k y l one = record {
      forth = elsewhere x k (not_new s x n k y l near_free one.forth)
          (not_new t x m k y l far_free one.forth) ∙ one.forth;
      back = elsewhere y l (not_new s y n l x k near_free one.back)
          (not_new t y m l x k far_free one.back) ∙ one.back;
    }

    made_one : AreOneLink made s n t m
    made_one = record { forth = at_near s n refl refl; back = at_far t m refl refl }

    data OneMade (x : Name) (k : ℕ) (y : Name) (l : ℕ) : Type 0 where
      forth : x ≡ s → k ≡ n → y ≡ t → OneMade x k y l
      return : y ≡ s → l ≡ n → x ≡ t → OneMade x k y l
      before : AreOneLink net.other x k y l → OneMade x k y l

    is_forth : (x : Name) (k : ℕ) (y : Name) (l : ℕ) → AreOneLink made x k y l → x ≡ s → k ≡ n
        → OneMade x k y l
    is_forth x k y l one e f =
        forth e f (sym (one_end (made x k) t m y l (at_near x k e f) one.forth).0)

    is_back : (x : Name) (k : ℕ) (y : Name) (l : ℕ) → AreOneLink made x k y l → x ≡ t → k ≡ m
        → OneMade x k y l
    is_back x k y l one e f =
        let w = one_end (made x k) s n y l (at_far x k e f) one.forth in
        return (sym w.0) (sym w.1) e

    which : (x : Name) (k : ℕ) (y : Name) (l : ℕ) → AreOneLink made x k y l → OneMade x k y l
    which x k y l one = go (at_end s n x k) (at_end t m x k) (at_end s n y l) (at_end t m y l)
      where
        go : AtEnd s n x k → AtEnd t m x k → AtEnd s n y l → AtEnd t m y l → OneMade x k y l
        go (at_it _ e f) _ _ _ = is_forth x k y l one e f
        go (at_other _ _) (at_it _ e f) _ _ = is_back x k y l one e f
        go (at_other _ o) (at_other _ p) (at_it _ e f) _ =
            let w = one_end (made y l) t m x k (at_near y l e f) one.back in
            absurd (p (sym w.0) (sym w.1))
        go (at_other _ o) (at_other _ p) (at_other _ _) (at_it _ e f) =
            let w = one_end (made y l) s n x k (at_far y l e f) one.back in
            absurd (o (sym w.0) (sym w.1))
        go (at_other _ o) (at_other _ p) (at_other _ q) (at_other _ r) = before (record {
          forth = sym (elsewhere x k o p) ∙ one.forth;
          back = sym (elsewhere y l q r) ∙ one.back;
        })

    -- the two were not linked
    not_linked : (k l : ℕ) → AreOneLink net.other s k t l → ⊥
    not_linked k l one = apart (linked_joined net.links s t (sound.linked s t k l one))

    not_before : (x y : Name) (i j : ℕ) → x ≡ s → y ≡ t → AreOneLink net.other x i y j → ⊥
    not_before x y i j e f one =
        let here = renamed net.other s x i i y j e refl one in
        not_linked i j (turned net.other t j s i (renamed net.other t y j j s i f refl
        (turned net.other s i y j here)))

    single : (x y : Name) (k l i j : ℕ) → AreOneLink made x k y l → AreOneLink made x i y j → k ≡ i
    single x y k l i j a b = go (which x k y l a) (which x i y j b)
      where
        go : OneMade x k y l → OneMade x i y j → k ≡ i
        go (forth e f g) (forth d h o) = f ∙ sym h
        go (forth e f g) (return d h o) = absurd (two (sym e ∙ o))
        go (forth e f g) (before c) = absurd (not_before x y i j e g c)
        go (return e f g) (forth d h o) = absurd (two (sym d ∙ g))
        go (return e f g) (return d h o) =
            sym (one_end (made y l) t m x k (at_near y l e f) a.back).1
            ∙ (one_end (made y j) t m x i (at_near y j d h) b.back).1
        go (return e f g) (before c) =
            absurd (not_before y x j i e g (turned net.other x i y j c))
        go (before c) (forth d h o) = absurd (not_before x y k l d o c)
        go (before c) (return d h o) =
            absurd (not_before y x l k d o (turned net.other x k y l c))
        go (before c) (before d) = sound.one x y k l i j c d

    pub joining_sound : IsSound (joining s n t m net)
    joining_sound = record {
      forest = (apart, sound.forest);
      numbers = numbers;
      linked = λ x y k l one. linked x y k l (which x k y l one);
      one = single;
      none_coming = λ x k e. none_coming x k e (at_end s n x k) (at_end t m x k);
    }
      where
        numbers : (x y : Name) → AreLinked (record { near = s; far = t } ∷ net.links) x y
            → HasNumbers made x y
        numbers x y (inl (inl p)) = record {
          near = n;
          far = m;
          are_one = subst (λ v. AreOneLink made x n v m) p.1
              (subst (λ v. AreOneLink made v n t m) p.0 made_one);
        }
        numbers x y (inl (inr p)) = record {
          near = m;
          far = n;
          are_one = turned made y n x m (subst (λ v. AreOneLink made y n v m) p.1
              (subst (λ v. AreOneLink made v n t m) p.0 made_one));
        }
        numbers x y (inr h) = let have = sound.numbers x y h in record {
          near = have.near;
          far = have.far;
          are_one = kept x have.near y have.far have.are_one;
        }

        linked : (x y : Name) (k l : ℕ) → OneMade x k y l
            → AreLinked (record { near = s; far = t } ∷ net.links) x y
        linked x y k l (forth e f g) = inl (inl (sym e, sym g))
        linked x y k l (return e f g) = inl (inr (sym e, sym g))
        linked x y k l (before c) = inr (sound.linked x y k l c)

        none_coming : (x : Name) (k : ℕ) → made x k ≡ None → AtEnd s n x k → AtEnd t m x k
            → with_at s n [] (with_at t m [] net.coming) x k ≡ []
        none_coming x k e (at_it _ f g) _ =
            with_at-it s n [] (with_at t m [] net.coming) x k f g
        none_coming x k e (at_other _ o) (at_it _ f g) =
            with_at-other s n [] (with_at t m [] net.coming) x k o
            ∙ with_at-it t m [] net.coming x k f g
        none_coming x k e (at_other _ o) (at_other _ p) =
            with_at-other s n [] (with_at t m [] net.coming) x k o
            ∙ with_at-other t m [] net.coming x k p
            ∙ sound.none_coming x k (sym (elsewhere x k o p) ∙ e)
