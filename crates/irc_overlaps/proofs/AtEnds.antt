-- What stands at one end, and what at the others.
use Rattle.std.proofs.Common.{◌≡◌, ◌≢◌, ℕ, true, false, ◌&&◌, nat_eq, if◌then◌else◌, Option}
use Rattle.std.proofs.Common.{Some, None, ◌⊎◌, inl, inr, refl, sym, ap, ◌∙◌}
use Rattle.std.proofs.lemmas.Bool.Decides.{eqb_tells}
use Rattle.std.proofs.lemmas.Option.{none-some}
use Rattle.irc_relay.specs.Links.{Name}
use Rattle.irc_relay.specs.Lemmas.TellingNames.{Telling, alike, unlike, tell}
use Rattle.irc_overlaps.specs.Networks.{Net, EndAt, end_at, is_at, is_back, with_at, whole_with}
use Rattle.irc_overlaps.specs.Networks.{far_end, AreOneLink}

-- ---- whether two ends are one

pub data AtEnd (s : Name) (n : ℕ) (x : Name) (k : ℕ) : Type 0 where
  at_it : is_at s n x k ≡ true → x ≡ s → k ≡ n → AtEnd s n x k
  at_other : is_at s n x k ≡ false → (x ≡ s → k ≡ n → ⊥) → AtEnd s n x k

pub at_end : (s : Name) (n : ℕ) (x : Name) (k : ℕ) → AtEnd s n x k
at_end s n x k = go (tell x s) (eqb_tells k n)
  where
    go : Telling x s → ((nat_eq k n ≡ true) × (k ≡ n)) ⊎ ((nat_eq k n ≡ false) × (k ≢ n))
        → AtEnd s n x k
    go (alike a e) (inl p) = at_it (ap (λ b. b && nat_eq k n) a ∙ p.0) e p.1
    go (alike a e) (inr p) = at_other (ap (λ b. b && nat_eq k n) a ∙ p.0) (λ f g. p.1 g)
    go (unlike a e) _ = at_other (ap (λ b. b && nat_eq k n) a) (λ f g. e f)

pub with_at-it : {A : Type 0} (s : Name) (n : ℕ) (now : A) (old : Name → ℕ → A) (x : Name) (k : ℕ)
    → x ≡ s → k ≡ n → with_at s n now old x k ≡ now
with_at-it s n now old x k e f = elim (at_end s n x k) [
  | at_it b _ _ ↦ ap (λ b. if b then now else old x k) b
  | at_other _ o ↦ absurd (o e f)
]

pub with_at-other : {A : Type 0} (s : Name) (n : ℕ) (now : A) (old : Name → ℕ → A) (x : Name)
    (k : ℕ) → (x ≡ s → k ≡ n → ⊥) → with_at s n now old x k ≡ old x k
with_at-other s n now old x k o = elim (at_end s n x k) [
  | at_it _ e f ↦ absurd (o e f)
  | at_other b _ ↦ ap (λ b. if b then now else old x k) b
]

-- ---- ends as values

abbrev server_in : Name → Option EndAt → Name
server_in s None = s
server_in s (Some end) = end.server

abbrev link_in : ℕ → Option EndAt → ℕ
link_in n None = n
link_in n (Some end) = end.link

pub one_end : (other : Option EndAt) (s : Name) (n : ℕ) (t : Name) (m : ℕ)
    → other ≡ Some (end_at s n) → other ≡ Some (end_at t m) → (s ≡ t) × (n ≡ m)
one_end other s n t m e f = (ap (server_in s) (sym e ∙ f), ap (link_in n) (sym e ∙ f))

pub no_end : (other : Option EndAt) (s : Name) (n : ℕ) → other ≡ None → other ≡ Some (end_at s n)
    → ⊥
no_end other s n e f = none-some (end_at s n) (sym e ∙ f)

pub turned : (other : Name → ℕ → Option EndAt) (s : Name) (n : ℕ) (t : Name) (m : ℕ)
    → AreOneLink other s n t m → AreOneLink other t m s n
turned other s n t m one = record { forth = one.back; back = one.forth }

-- the two ends of a link are named by other words
pub renamed : (other : Name → ℕ → Option EndAt) (s x : Name) (n k : ℕ) (t : Name) (m : ℕ)
    → x ≡ s → k ≡ n → AreOneLink other x k t m → AreOneLink other s n t m
renamed other s x n k t m e f one = record {
  forth = ap (λ v. other v n) (sym e) ∙ ap (other x) (sym f) ∙ one.forth;
  back = one.back ∙ ap (λ v. Some (end_at v k)) e ∙ ap (λ v. Some (end_at s v)) f;
}

-- ---- the other end of a link

pub data Reaching (net : Net) (s : Name) (n : ℕ) : Type 0 where
  reaches : (t : Name) (m : ℕ) → far_end net s n ≡ Some (end_at t m)
      → AreOneLink net.other s n t m → Reaching net s n
  reaches_none : far_end net s n ≡ None
      → ((t : Name) (m : ℕ) → AreOneLink net.other s n t m → ⊥) → Reaching net s n

reaching_back : (net : Net) (s : Name) (n : ℕ) (far : EndAt) → net.other s n ≡ Some far
    → (back : Option EndAt) → net.other far.server far.link ≡ back → Reaching net s n
reaching_back net s n far e None f = reaches_none
    (ap (whole_with net s n) e ∙ ap (λ o. if is_back s n o then Some far else None) f)
    (λ t m one. let w = one_end (net.other s n) far.server far.link t m e one.forth in
    no_end (net.other far.server far.link) s n f
    (ap (λ v. net.other v far.link) w.0 ∙ ap (net.other t) w.1 ∙ one.back))
reaching_back net s n far e (Some end) f = elim (at_end end.server end.link s n) [
  | at_it b p q ↦ reaches far.server far.link
      (ap (whole_with net s n) e ∙ ap (λ o. if is_back s n o then Some far else None) f
      ∙ ap (λ b. if b then Some far else None) b)
      (record {
        forth = e;
        back = f ∙ ap (λ v. Some (end_at v end.link)) (sym p) ∙ ap (λ v. Some (end_at s v)) (sym q);
      })
  | at_other b o ↦ reaches_none
      (ap (whole_with net s n) e ∙ ap (λ o. if is_back s n o then Some far else None) f
      ∙ ap (λ b. if b then Some far else None) b)
      (λ t m one. let w = one_end (net.other s n) far.server far.link t m e one.forth in
      let v = one_end (net.other far.server far.link) end.server end.link s n f
      (ap (λ v. net.other v far.link) w.0 ∙ ap (net.other t) w.1 ∙ one.back) in
      o (sym v.0) (sym v.1))
]

reaching_from : (net : Net) (s : Name) (n : ℕ) (far : Option EndAt) → net.other s n ≡ far
    → Reaching net s n
reaching_from net s n None e = reaches_none (ap (whole_with net s n) e)
    (λ t m one. no_end (net.other s n) t m e one.forth)
reaching_from net s n (Some far) e =
    reaching_back net s n far e (net.other far.server far.link) refl

pub reaching : (net : Net) (s : Name) (n : ℕ) → Reaching net s n
reaching net s n = reaching_from net s n (net.other s n) refl
