-- The two ends of a link, and the side of each: those who are joined to it along other links.
-- Whatever is so of one end and its side is so of the other: it is said once, of an end e and the
-- other end o.
use Rattle.std.proofs.Common.{◌≡◌, ◌≢◌, ◌⊎◌, List, refl, sym, ap, subst, ◌∙◌, inl, inr}
use Rattle.std.proofs.Common.{if◌then◌else◌}
use Rattle.irc_relay.specs.Lemmas.TellingNames.{Telling, alike, unlike, tell, same_unless}
use Rattle.irc_relay.specs.Links.{Name, Link, part, joined, AreJoined, HasEnds}
use Rattle.irc_follow.specs.Lemmas.BehindLinks.{joined_test}

-- what is so of both ends is so of any
pub both_ends : (l : Link) (P : Name → Name → Type 0) → P l.near l.far → P l.far l.near
    → (e o : Name) → HasEnds l e o → P e o
both_ends l P near far e o (inl (n, f)) = subst (λ v. P v o) n (subst (λ v. P l.near v) f near)
both_ends l P near far e o (inr (n, f)) = subst (λ v. P v o) f (subst (λ v. P l.far v) n far)

pub other_end : (l : Link) (e o : Name) → HasEnds l e o → HasEnds l o e
other_end l e o (inl h) = inr h
other_end l e o (inr h) = inl h

pub is_either : (l : Link) (e o : Name) → HasEnds l e o → (e ≡ l.near) ⊎ (e ≡ l.far)
is_either l e o (inl (n, f)) = inl (sym n)
is_either l e o (inr (n, f)) = inr (sym f)

-- whether a server is one of the ends
pub data AtEnd (l : Link) (t : Name) : Type 0 where
  is_end : (o : Name) → HasEnds l t o → AtEnd l t
  is_none : t ≢ l.near → t ≢ l.far → AtEnd l t

pub which_end : (l : Link) (t : Name) → AtEnd l t
which_end l t = by (tell t l.near) (tell t l.far)
  where
    by : Telling t l.near → Telling t l.far → AtEnd l t
    by (alike _ e) far = is_end l.far (inl (sym e, refl))
    by (unlike _ two) (alike _ e) = is_end l.near (inr (refl, sym e))
    by (unlike _ two) (unlike _ other) = is_none two other

-- which side a server is on
pub data OnSide (l : Link) (base : List Link) (t : Name) : Type 0 where
  on_side : (e o : Name) → HasEnds l e o → AreJoined base t e → OnSide l base t
  on_neither : ((e o : Name) → HasEnds l e o → AreJoined base t e → ⊥) → OnSide l base t

-- what is of an end on its side, and what is so elsewhere
abbrev pub chosen : {A : Type 0} → Link → List Link → (Name → Name → A) → A → Name → A
chosen l base of_end other t = if joined base t l.near then of_end l.near l.far
    else (if joined base t l.far then of_end l.far l.near else other)

module _ (l : Link) (base : List Link) (t : Name) where
  pub which_side : OnSide l base t
  which_side = by (tell (part base t) (part base l.near)) (tell (part base t) (part base l.far))
    where
      neither : (AreJoined base t l.near → ⊥) → (AreJoined base t l.far → ⊥) → (e o : Name)
          → HasEnds l e o → AreJoined base t e → ⊥
      neither two other e o (inl (n, f)) on = two (on ∙ sym (ap (part base) n))
      neither two other e o (inr (n, f)) on = other (on ∙ sym (ap (part base) f))

      by : Telling (part base t) (part base l.near) → Telling (part base t) (part base l.far)
          → OnSide l base t
      by (alike _ here) far = on_side l.near l.far (inl (refl, refl)) here
      by (unlike _ two) (alike _ there) = on_side l.far l.near (inr (refl, refl)) there
      by (unlike _ two) (unlike _ other) = on_neither (neither two other)

  pub chosen_aside : {A : Type 0} (of_end : Name → Name → A) (other : A) → ((e o : Name)
      → HasEnds l e o → AreJoined base t e → ⊥) → chosen l base of_end other t ≡ other
  chosen_aside of_end other none =
      ap (λ c. if c then of_end l.near l.far
      else (if joined base t l.far then of_end l.far l.near else other))
      (same_unless (part base t) (part base l.near) (none l.near l.far (inl (refl, refl))))
      ∙ ap (λ c. if c then of_end l.far l.near else other)
      (same_unless (part base t) (part base l.far) (none l.far l.near (inr (refl, refl))))

-- the ends are of two parts
module _ (l : Link) (base : List Link) (apart : AreJoined base l.near l.far → ⊥) where
  pub not_both : (t e o : Name) → HasEnds l e o → AreJoined base t e → AreJoined base t o → ⊥
  not_both t e o (inl (n, f)) here there =
      apart (ap (part base) n ∙ sym here ∙ there ∙ sym (ap (part base) f))
  not_both t e o (inr (n, f)) here there =
      apart (ap (part base) n ∙ sym there ∙ here ∙ sym (ap (part base) f))

  -- of one side is one end
  pub one_end : (e o u v : Name) → HasEnds l e o → HasEnds l u v → AreJoined base e u → e ≡ u
  one_end e o u v (inl (n, f)) (inl (m, g)) on = sym n ∙ m
  one_end e o u v (inl (n, f)) (inr (m, g)) on =
      absurd (apart (ap (part base) n ∙ on ∙ sym (ap (part base) g)))
  one_end e o u v (inr (n, f)) (inl (m, g)) on =
      absurd (apart (ap (part base) m ∙ sym on ∙ sym (ap (part base) f)))
  one_end e o u v (inr (n, f)) (inr (m, g)) on = sym f ∙ g

  pub chosen_at : {A : Type 0} (of_end : Name → Name → A) (other : A) (t e o : Name) → HasEnds l e o
      → AreJoined base t e → chosen l base of_end other t ≡ of_end e o
  chosen_at of_end other t e o (inl (n, f)) on =
      ap (λ c. if c then of_end l.near l.far
      else (if joined base t l.far then of_end l.far l.near else other))
      (joined_test base t l.near (on ∙ sym (ap (part base) n)))
      ∙ (λ i. of_end (n i) (f i))
  chosen_at of_end other t e o (inr (n, f)) on =
      ap (λ c. if c then of_end l.near l.far
      else (if joined base t l.far then of_end l.far l.near else other))
      (same_unless (part base t) (part base l.near)
      (λ near. apart (sym near ∙ on ∙ sym (ap (part base) f))))
      ∙ ap (λ c. if c then of_end l.far l.near else other)
      (joined_test base t l.far (on ∙ sym (ap (part base) f)))
      ∙ (λ i. of_end (f i) (n i))
