-- Lines that do nothing at the receiver's final state may be put behind all that is coming to it.
use Rattle.std.proofs.Common.{◌≡◌, ◌≢◌, ℕ, zero, suc, List, [], ◌++◌, ◌⊎◌, inl, inr, refl, sym, ap}
use Rattle.std.proofs.Common.{subst, ◌∙◌, arith}
use Rattle.std.proofs.lemmas.List.{append-nil}
use Rattle.irc_relay.specs.Links.{Name, Link}
use Rattle.irc_relay.specs.Relay.{Machine, RelayState, Streams, after, passed_on, shown_upon}
use Rattle.irc_relay.specs.Relay.{under_way}
use Rattle.irc_relay.specs.Relay.{coming_within, coming, final, final_shown, TakesFrom, AreHarmless}
use Rattle.irc_relay.specs.Lemmas.TellingNames.{alike, unlike, tell}
use Rattle.irc_relay.specs.Lemmas.StreamsFlow.{IsFlow}
use Rattle.irc_relay.specs.Lemmas.Deliveries.{after-append, passed_on-append, shown_upon-append}
use Rattle.irc_relay.specs.Lemmas.Deliveries.{after_harmless, passed_on_harmless}
use Rattle.irc_relay.specs.Lemmas.Deliveries.{shown_upon_harmless, coming_from_still}

-- some lines are put behind those under way from x to y. Nothing else changes
pub record Adds {State Line Shown : Type 0} (x y : Name) (lines : List Line)
    (old new : RelayState State Line Shown) : Type 0 where
  pub put : under_way new x y ≡ under_way old x y ++ lines
  pub others : (a b : Name) → (a ≡ x → b ≡ y → ⊥) → under_way new a b ≡ under_way old a b
  pub states : (u : Name) → new.state u ≡ old.state u
  pub shown : (u : Name) → new.shown u ≡ old.shown u

-- lines under way from x are the last that come to y: x will pass nothing on to it
pub record AreLast {State Line Shown : Type 0} (m : Machine State Line Shown) (streams : Streams)
    (net : RelayState State Line Shown) (x y : Name) : Type 0 where
  pub takes_from : TakesFrom streams y x
  pub nothing_behind : (n : ℕ) → streams.depth y ≡ suc n
      → passed_on m x (streams.parent x) (net.state x) (coming_within m streams net n x) y ≡ []

-- at depth n: the receiver has more to come, and the others have what they had
pub record IsMoreAt {State Line Shown : Type 0} (m : Machine State Line Shown) (streams : Streams)
    (y : Name) (lines : List Line) (old new : RelayState State Line Shown) (n : ℕ) : Type 0 where
  pub steady : (u : Name) → u ≢ y → (n ≡ 0) ⊎ (streams.depth u ≡ n)
      → coming_within m streams new n u ≡ coming_within m streams old n u
  pub added : (k : ℕ) → n ≡ suc k → streams.depth y ≡ n
      → coming_within m streams new n y ≡ coming_within m streams old n y ++ lines

module _ (State Line Shown : Type 0) (m : Machine State Line Shown) (links : List Link)
    (streams : Streams) (x y : Name) (lines : List Line) (old new : RelayState State Line Shown)
    (flow : IsFlow links streams) (adds : Adds x y lines old new) (last : AreLast m streams old x y)
    (harmless : AreHarmless m y x (final m streams old y) lines) where
  parent_is : streams.parent y ≡ x
  parent_is = last.takes_from.parent

  harmless_there : AreHarmless m y (streams.parent y) (final m streams old y) lines
  harmless_there =
      subst (λ v. AreHarmless m y v (final m streams old y) lines) (sym parent_is) harmless

  depth_of : (k : ℕ) × (streams.depth y ≡ suc k)
  depth_of = go (streams.depth y) refl
    where
      go : (n : ℕ) → streams.depth y ≡ n → (k : ℕ) × (streams.depth y ≡ suc k)
      go zero e = let h = last.takes_from.below in let q : ⊥ = omega arith in absurd q
      go (suc k) e = (k, e)

  giver : x ≢ y
  giver e = flow.other y depth_of.0 depth_of.1 (parent_is ∙ e)

  added_behind : (n : ℕ) → streams.depth y ≡ suc n → IsMoreAt m streams y lines old new n
      → coming_within m streams new (suc n) y ≡ coming_within m streams old (suc n) y ++ lines
  unfolding coming_within
  added_behind n d more =
      subst
      (λ v. under_way new v y ++ passed_on m v (streams.parent v) (new.state v)
      (coming_within m streams new n v) y ≡ (under_way old v y ++ passed_on m v
      (streams.parent v) (old.state v) (coming_within m streams old n v) y) ++ lines)
      (sym parent_is)
      (ap (λ v. under_way new x y ++ v) (still ∙ last.nothing_behind n d)
      ∙ append-nil (under_way new x y)
      ∙ adds.put
      ∙ ap (λ v. v ++ lines) (sym (append-nil (under_way old x y))
      ∙ ap (λ v. under_way old x y ++ v) (sym (last.nothing_behind n d))))
    where
      still : passed_on m x (streams.parent x) (new.state x) (coming_within m streams new n x) y
          ≡ passed_on m x (streams.parent x) (old.state x) (coming_within m streams old n x) y
      still =
          ap (λ s. passed_on m x (streams.parent x) s (coming_within m streams new n x) y)
          (adds.states x)
          ∙ ap (λ v. passed_on m x (streams.parent x) (old.state x) v y) (more.steady x giver
          (subst (λ v. (n ≡ 0) ⊎ (streams.depth v ≡ n)) parent_is (flow.nearer y n d)))

  steady_beside : (n : ℕ) (u : Name) → u ≢ y → streams.depth u ≡ suc n
      → streams.parent u ≢ y → IsMoreAt m streams y lines old new n
      → coming_within m streams new (suc n) u ≡ coming_within m streams old (suc n) u
  unfolding coming_within
  steady_beside n u o d i more =
      ap (λ v. v ++ passed_on m (streams.parent u) (streams.parent (streams.parent u))
      (new.state (streams.parent u)) (coming_within m streams new n (streams.parent u)) u)
      (adds.others (streams.parent u) u (λ _ e. o e))
      ∙ ap (λ v. under_way old (streams.parent u) u ++ v) (coming_from_still m streams old new n u
      (adds.states (streams.parent u)) (more.steady (streams.parent u) i (flow.nearer u n d)))

  steady_root : (u : Name) → streams.parent u ≡ y
      → coming_within m streams new 1 u ≡ coming_within m streams old 1 u
  unfolding coming_within
  steady_root u e = ap (λ v. v ++ []) (adds.others (streams.parent u) u (λ f _. giver (sym f ∙ e)))

  -- behind the receiver, which passes nothing on of the lines that were added
  steady_behind : (n : ℕ) (u : Name) → streams.depth y ≡ n → streams.parent u ≡ y
      → coming_within m streams new n y ≡ coming_within m streams old n y ++ lines
      → coming_within m streams new (suc n) u ≡ coming_within m streams old (suc n) u
  unfolding coming_within
  steady_behind n u d e c =
      subst
      (λ v. under_way new v u ++ passed_on m v (streams.parent v) (new.state v)
      (coming_within m streams new n v) u ≡ under_way old v u
      ++ passed_on m v (streams.parent v) (old.state v) (coming_within m streams old n v) u)
      (sym e)
      (ap (λ v. v ++ passed_on m y (streams.parent y) (new.state y)
      (coming_within m streams new n y) u) (adds.others y u (λ f _. giver (sym f)))
      ∙ ap (λ s. under_way old y u ++ passed_on m y (streams.parent y) s
      (coming_within m streams new n y) u) (adds.states y)
      ∙ ap (λ v. under_way old y u ++ passed_on m y (streams.parent y) (old.state y) v u) c
      ∙ ap (λ v. under_way old y u ++ v) (passed_on-append m y (streams.parent y) (old.state y)
      (coming_within m streams old n y) lines u ∙ ap (λ v. passed_on m y (streams.parent y)
      (old.state y) (coming_within m streams old n y) u ++ v) nothing ∙ append-nil
      (passed_on m y (streams.parent y) (old.state y) (coming_within m streams old n y) u)))
    where
      nothing : passed_on m y (streams.parent y) (after m y (streams.parent y) (old.state y)
          (coming_within m streams old n y)) lines u ≡ []
      nothing = ap (λ k. passed_on m y (streams.parent y) (after m y (streams.parent y)
          (old.state y) (coming_within m streams old k y)) lines u) (sym d)
          ∙ passed_on_harmless m y (streams.parent y) (final m streams old y) lines u harmless_there

  more_at : (n : ℕ) → IsMoreAt m streams y lines old new n
  unfolding coming_within
  more_at zero =
      record { steady = λ u o d. refl; added = λ k e d. let q : ⊥ = omega arith in absurd q }
  more_at (suc n) = go (more_at n)
    where
      behind : (k : ℕ) (u : Name) → IsMoreAt m streams y lines old new k
          → (k ≡ 0) ⊎ (streams.depth y ≡ k) → streams.parent u ≡ y
          → coming_within m streams new (suc k) u ≡ coming_within m streams old (suc k) u
      behind zero u more c e = steady_root u e
      behind (suc k) u more (inl z) e = let q : ⊥ = omega arith in absurd q
      behind (suc k) u more (inr z) e = steady_behind (suc k) u z e (more.added k refl z)

      go : IsMoreAt m streams y lines old new n → IsMoreAt m streams y lines old new (suc n)
      go more =
          record {
            steady = λ u o c. elim c [
              | inl z ↦ (let q : ⊥ = omega arith in absurd q)
              | inr d ↦ elim (tell (streams.parent u) y) [
                | alike _ e ↦ behind n u more
                    (subst (λ v. (n ≡ 0) ⊎ (streams.depth v ≡ n)) e (flow.nearer u n d)) e
                | unlike _ i ↦ steady_beside n u o d i more
              ]
            ];
            added = λ k e d. added_behind n d more;
          }

  pub coming_steady : (u : Name) → u ≢ y → coming m streams new u ≡ coming m streams old u
  coming_steady u o = (more_at (streams.depth u)).steady u o (inr refl)

  pub coming_added : coming m streams new y ≡ coming m streams old y ++ lines
  coming_added = (more_at (streams.depth y)).added depth_of.0 depth_of.1 refl

  pub final_kept : (u : Name) → final m streams new u ≡ final m streams old u
  final_kept u = elim (tell u y) [
    | alike _ e ↦ subst (λ v. final m streams new v
        ≡ final m streams old v) (sym e) at_receiver
    | unlike _ o ↦ elsewhere o
  ]
    where
      at_receiver : final m streams new y ≡ final m streams old y
      at_receiver =
          ap (λ s. after m y (streams.parent y) s (coming m streams new y)) (adds.states y)
          ∙ ap (λ v. after m y (streams.parent y) (old.state y) v) coming_added
          ∙ after-append m y (streams.parent y) (old.state y) (coming m streams old y) lines
          ∙ after_harmless m y (streams.parent y) (final m streams old y) lines harmless_there

      elsewhere : u ≢ y → final m streams new u ≡ final m streams old u
      elsewhere o =
          ap (λ s. after m u (streams.parent u) s (coming m streams new u)) (adds.states u)
          ∙ ap (λ v. after m u (streams.parent u) (old.state u) v) (coming_steady u o)

  pub told_kept : (u : Name) → final_shown m streams new u ≡ final_shown m streams old u
  told_kept u = ap (λ v. v ++ shown_upon m u (streams.parent u) (new.state u)
      (coming m streams new u)) (adds.shown u) ∙ ap (λ v. old.shown u ++ v)
      (elim (tell u y) [
        | alike _ e ↦ subst (λ v. shown_upon m v (streams.parent v) (new.state v)
            (coming m streams new v) ≡ shown_upon m v (streams.parent v) (old.state v)
            (coming m streams old v)) (sym e) at_receiver
        | unlike _ o ↦ elsewhere o
      ])
    where
      at_receiver : shown_upon m y (streams.parent y) (new.state y) (coming m streams new y)
          ≡ shown_upon m y (streams.parent y) (old.state y) (coming m streams old y)
      at_receiver =
          ap (λ s. shown_upon m y (streams.parent y) s (coming m streams new y)) (adds.states y)
          ∙ ap (λ v. shown_upon m y (streams.parent y) (old.state y) v) coming_added
          ∙ shown_upon-append m y (streams.parent y) (old.state y) (coming m streams old y) lines
          ∙ ap (λ v. shown_upon m y (streams.parent y) (old.state y) (coming m streams old y) ++ v)
          (shown_upon_harmless m y (streams.parent y)
          (final m streams old y) lines harmless_there)
          ∙ append-nil (shown_upon m y (streams.parent y) (old.state y) (coming m streams old y))

      elsewhere : u ≢ y → shown_upon m u (streams.parent u) (new.state u) (coming m streams new u)
          ≡ shown_upon m u (streams.parent u) (old.state u) (coming m streams old u)
      elsewhere o =
          ap (λ s. shown_upon m u (streams.parent u) s (coming m streams new u)) (adds.states u)
          ∙ ap (λ v. shown_upon m u (streams.parent u) (old.state u) v) (coming_steady u o)
