-- A delivery keeps what every server's state will be and what it will have shown.
use Rattle.std.proofs.Common.{◌≡◌, ◌≢◌, ℕ, zero, suc, List, [], ◌∷◌, ◌++◌, ◌⊎◌, inl, inr, refl, sym}
use Rattle.std.proofs.Common.{ap, subst, ◌∙◌, arith, append_assoc}
use Rattle.std.proofs.lemmas.List.{append-nil}
use Rattle.irc_relay.specs.Links.{Name, Link}
use Rattle.irc_relay.specs.Relay.{Machine, RelayState, Streams, after, passed_on, shown_upon}
use Rattle.irc_relay.specs.Relay.{under_way}
use Rattle.irc_relay.specs.Relay.{coming_within, coming, ComesInTurn, at_source, from_source}
use Rattle.irc_relay.specs.Relay.{from_parent, final, final_shown, IsAtRest, TakesFrom, AreHarmless}
use Rattle.irc_relay.specs.Relay.{Delivers}
use Rattle.irc_relay.specs.Lemmas.TellingNames.{alike, unlike, tell}
use Rattle.irc_relay.specs.Lemmas.StreamsFlow.{IsFlow}

-- runs of lines, one after another
pub after-append : {State Line Shown : Type 0} (m : Machine State Line Shown) (t p : Name)
    (s : State) (xs ys : List Line) → after m t p s (xs ++ ys) ≡ after m t p (after m t p s xs) ys
after-append m t p s [] ys = refl
after-append m t p s (x ∷ xs) ys = after-append m t p (m.step t p s x) xs ys

pub passed_on-append : {State Line Shown : Type 0} (m : Machine State Line Shown)
    (t p : Name) (s : State) (xs ys : List Line) (u : Name) → passed_on m t p s (xs ++ ys) u
    ≡ passed_on m t p s xs u ++ passed_on m t p (after m t p s xs) ys u
passed_on-append m t p s [] ys u = refl
passed_on-append m t p s (x ∷ xs) ys u =
    ap (λ rest. m.sends t p s x u ++ rest) (passed_on-append m t p (m.step t p s x) xs ys u)
    ∙ sym (append_assoc (m.sends t p s x u) (passed_on m t p (m.step t p s x) xs u)
    (passed_on m t p (after m t p (m.step t p s x) xs) ys u))

pub shown_upon-append : {State Line Shown : Type 0} (m : Machine State Line Shown) (t p : Name)
    (s : State) (xs ys : List Line) → shown_upon m t p s (xs ++ ys) ≡ shown_upon m t p s xs
    ++ shown_upon m t p (after m t p s xs) ys
shown_upon-append m t p s [] ys = refl
shown_upon-append m t p s (x ∷ xs) ys =
    ap (λ rest. m.shows t p s x ++ rest) (shown_upon-append m t p (m.step t p s x) xs ys)
    ∙ sym (append_assoc (m.shows t p s x) (shown_upon m t p (m.step t p s x) xs)
    (shown_upon m t p (after m t p (m.step t p s x) xs) ys))

-- harmless lines do nothing, one after another
pub after_harmless : {State Line Shown : Type 0} (m : Machine State Line Shown) (y x : Name)
    (s : State) (lines : List Line) → AreHarmless m y x s lines → after m y x s lines ≡ s
after_harmless m y x s [] h = refl
after_harmless m y x s (line ∷ lines) h =
    ap (λ v. after m y x v lines) h.0.same_state ∙ after_harmless m y x s lines h.1

pub passed_on_harmless : {State Line Shown : Type 0} (m : Machine State Line Shown)
    (y x : Name) (s : State) (lines : List Line) (u : Name) → AreHarmless m y x s lines
    → passed_on m y x s lines u ≡ []
passed_on_harmless m y x s [] u h = refl
passed_on_harmless m y x s (line ∷ lines) u h =
    ap (λ v. v ++ passed_on m y x (m.step y x s line) lines u) (h.0.sends_none u)
    ∙ ap (λ v. passed_on m y x v lines u) h.0.same_state
    ∙ passed_on_harmless m y x s lines u h.1

pub shown_upon_harmless : {State Line Shown : Type 0} (m : Machine State Line Shown) (y x : Name)
    (s : State) (lines : List Line) → AreHarmless m y x s lines → shown_upon m y x s lines ≡ []
shown_upon_harmless m y x s [] h = refl
shown_upon_harmless m y x s (line ∷ lines) h =
    ap (λ v. v ++ shown_upon m y x (m.step y x s line) lines) h.0.shows_none
    ∙ ap (λ v. shown_upon m y x v lines) h.0.same_state
    ∙ shown_upon_harmless m y x s lines h.1

-- nothing is coming at rest
pub coming_at_rest : {State Line Shown : Type 0} (m : Machine State Line Shown)
    (streams : Streams) (net : RelayState State Line Shown) → IsAtRest net → (n : ℕ) (t : Name)
    → coming_within m streams net n t ≡ []
unfolding coming_within
coming_at_rest m streams net rest zero t = refl
coming_at_rest m streams net rest (suc n) t =
    ap (λ v. v ++ passed_on m (streams.parent t) (streams.parent (streams.parent t))
    (net.state (streams.parent t)) (coming_within m streams net n (streams.parent t)) t)
    (rest (streams.parent t) t)
    ∙ ap (λ v. passed_on m (streams.parent t) (streams.parent (streams.parent t)) (net.state
    (streams.parent t)) v t) (coming_at_rest m streams net rest n (streams.parent t))

-- what is coming, by what is coming to the parent
pub comes_in_turn : {State Line Shown : Type 0} (m : Machine State Line Shown) (links : List Link)
    (streams : Streams) (net : RelayState State Line Shown) (t : Name) → IsFlow links streams
    → ComesInTurn m streams net t
unfolding coming_within
comes_in_turn m links streams net t flow = go (streams.depth t) refl
  where
    deeper : (n : ℕ) → streams.depth t ≡ suc (suc n)
        → (suc n ≡ 0) ⊎ (streams.depth (streams.parent t) ≡ suc n) → ComesInTurn m streams net t
    deeper n e (inl z) = let q : ⊥ = omega arith in absurd q
    deeper n e (inr f) =
        from_parent
        (omega arith)
        (omega arith)
        (ap (λ k. coming_within m streams net k t) e
        ∙ ap (λ k. under_way net (streams.parent t) t ++ passed_on m (streams.parent t)
        (streams.parent (streams.parent t)) (net.state (streams.parent t))
        (coming_within m streams net k (streams.parent t)) t) (sym f))

    go : (n : ℕ) → streams.depth t ≡ n → ComesInTurn m streams net t
    go zero e = at_source e (ap (λ k. coming_within m streams net k t) e)
    go (suc zero) e = from_source e (ap (λ k. coming_within m streams net k t) e
        ∙ append-nil (under_way net (streams.parent t) t))
    go (suc (suc n)) e = deeper n e (flow.nearer t (suc n) e)

-- one net after the other, where t takes a line from its parent p and returns nothing
pub record Takes {State Line Shown : Type 0} (m : Machine State Line Shown) (links : List Link)
    (streams : Streams) (p t : Name) (line : Line)
    (old new : RelayState State Line Shown) : Type 0 where
  pub delivers : Delivers m p t line [] old new
  pub no_echo : m.sends t p (old.state t) line p ≡ []
  pub takes_from : TakesFrom streams t p

-- at depth n: the taker has one line less to come, and the others have what they had
pub record IsKeptAt {State Line Shown : Type 0} (m : Machine State Line Shown) (streams : Streams)
    (t : Name) (line : Line) (old new : RelayState State Line Shown) (n : ℕ) : Type 0 where
  pub steady : (u : Name) → u ≢ t → (n ≡ 0) ⊎ (streams.depth u ≡ n)
      → coming_within m streams new n u ≡ coming_within m streams old n u
  pub taken : (k : ℕ) → n ≡ suc k → streams.depth t ≡ n
      → coming_within m streams old n t ≡ line ∷ coming_within m streams new n t

-- what is coming from a server that does not take, whose state and own coming lines stay
pub coming_from_still : {State Line Shown : Type 0} (m : Machine State Line Shown)
    (streams : Streams) (old new : RelayState State Line Shown) (n : ℕ) (u : Name)
    → new.state (streams.parent u) ≡ old.state (streams.parent u)
    → coming_within m streams new n (streams.parent u) ≡ coming_within m streams old n
    (streams.parent u) → passed_on m (streams.parent u) (streams.parent (streams.parent u))
    (new.state (streams.parent u)) (coming_within m streams new n (streams.parent u)) u
    ≡ passed_on m (streams.parent u) (streams.parent (streams.parent u))
    (old.state (streams.parent u)) (coming_within m streams old n (streams.parent u)) u
coming_from_still m streams old new n u e f =
    ap (λ s. passed_on m (streams.parent u) (streams.parent (streams.parent u)) s
    (coming_within m streams new n (streams.parent u)) u) e
    ∙ ap (λ lines. passed_on m (streams.parent u) (streams.parent (streams.parent u))
    (old.state (streams.parent u)) lines u) f

module _ (State Line Shown : Type 0) (m : Machine State Line Shown) (links : List Link)
    (streams : Streams) (p t : Name) (line : Line) (old new : RelayState State Line Shown)
    (flow : IsFlow links streams) (takes : Takes m links streams p t line old new) where
  deep : (streams.depth t ≡ 0) → ⊥
  deep e = let h = takes.takes_from.below in let q : ⊥ = omega arith in q

  depth_of : (k : ℕ) × (streams.depth t ≡ suc k)
  depth_of = go (streams.depth t) refl
    where
      go : (n : ℕ) → streams.depth t ≡ n → (k : ℕ) × (streams.depth t ≡ suc k)
      go zero e = absurd (deep e)
      go (suc k) e = (k, e)

  giver : p ≢ t
  giver e = flow.other t depth_of.0 depth_of.1 (takes.takes_from.parent ∙ e)

  -- what is put behind what was under way, to whomever
  sent_to : (u : Name) → under_way new t u ≡ under_way old t u ++ m.sends t p (old.state t) line u
  sent_to u =
      elim (tell u p) [
        | alike _ e ↦ subst
            (λ v. under_way new t v ≡ under_way old t v ++ m.sends t p (old.state t) line v) (sym e)
            (takes.delivers.returned ∙ ap (λ v. under_way old t p ++ v) (sym takes.no_echo))
        | unlike _ n ↦ takes.delivers.sent u n
      ]

  under_way_same : (x y : Name) → x ≢ t → (x ≡ p → y ≡ t → ⊥)
      → under_way new x y ≡ under_way old x y
  under_way_same x y n o = ap (λ v. v ++ new.owed x y) (takes.delivers.other_queues x y n o)
      ∙ ap (λ v. old.queue x y ++ v) (takes.delivers.other_debts x y n)

  under_way_taken : under_way old p t ≡ line ∷ under_way new p t
  under_way_taken = ap (λ v. v ++ old.owed p t) takes.delivers.took
      ∙ ap (λ v. line ∷ (new.queue p t ++ v)) (sym (takes.delivers.other_debts p t giver))

  -- to a server whose parent is not the taker
  steady_beside : (n : ℕ) (u : Name) → u ≢ t → streams.depth u ≡ suc n
      → streams.parent u ≢ t → IsKeptAt m streams t line old new n
      → coming_within m streams new (suc n) u ≡ coming_within m streams old (suc n) u
  unfolding coming_within
  steady_beside n u o d i kept =
      ap (λ v. v ++ passed_on m (streams.parent u) (streams.parent (streams.parent u))
      (new.state (streams.parent u)) (coming_within m streams new n (streams.parent u)) u)
      (under_way_same (streams.parent u) u i (λ _ e. o e))
      ∙ ap (λ v. under_way old (streams.parent u) u ++ v) (coming_from_still m streams old new n u
      (takes.delivers.other_states (streams.parent u) i)
      (kept.steady (streams.parent u) i (flow.nearer u n d)))

  -- to a server whose parent is the taker, which has taken a line and passed it on
  steady_behind : (n : ℕ) (u : Name) → streams.parent u ≡ t
      → coming_within m streams old n t ≡ line ∷ coming_within m streams new n t
      → coming_within m streams new (suc n) u ≡ coming_within m streams old (suc n) u
  unfolding coming_within
  steady_behind n u e c =
      subst
      (λ v. under_way new v u ++ passed_on m v (streams.parent v) (new.state v)
      (coming_within m streams new n v) u ≡ under_way old v u
      ++ passed_on m v (streams.parent v) (old.state v) (coming_within m streams old n v) u)
      (sym e)
      (ap (λ v. v ++ passed_on m t (streams.parent t) (new.state t)
      (coming_within m streams new n t) u) (sent_to u)
      ∙ append_assoc (under_way old t u) (m.sends t p (old.state t) line u)
      (passed_on m t (streams.parent t) (new.state t) (coming_within m streams new n t) u)
      ∙ ap (λ v. under_way old t u ++ v)
      (moving ∙ ap (λ v. passed_on m t (streams.parent t) (old.state t) v u) (sym c)))
    where
      moving : m.sends t p (old.state t) line u ++ passed_on m t (streams.parent t) (new.state t)
          (coming_within m streams new n t) u ≡ passed_on m t (streams.parent t) (old.state t)
          (line ∷ coming_within m streams new n t) u
      moving =
          ap (λ s. m.sends t p (old.state t) line u ++ passed_on m t (streams.parent t) s
          (coming_within m streams new n t) u) takes.delivers.moved
          ∙ ap (λ q. m.sends t q (old.state t) line u ++ passed_on m t (streams.parent t)
          (m.step t q (old.state t) line) (coming_within m streams new n t) u)
          (sym takes.takes_from.parent)

  -- back to the taker's parent, from which nothing more comes to the taker's stream
  steady_root : (u : Name) → streams.parent u ≡ t → streams.depth u ≡ 1
      → coming_within m streams new 1 u ≡ coming_within m streams old 1 u
  unfolding coming_within
  steady_root u e d =
      subst
      (λ v. under_way new v u ++ [] ≡ under_way old v u ++ [])
      (sym e)
      (ap (λ v. v ++ []) (subst (λ v. under_way new t v ≡ under_way old t v)
      (sym takes.takes_from.parent ∙ flow.rooted t u depth_of.0 depth_of.1 d e)
      (takes.delivers.returned ∙ append-nil (under_way old t p))))

  taken_more : (n : ℕ) → streams.depth t ≡ suc n → IsKeptAt m streams t line old new n
      → coming_within m streams old (suc n) t ≡ line ∷ coming_within m streams new (suc n) t
  unfolding coming_within
  taken_more n d kept =
      ap (λ v. v ++ passed_on m (streams.parent t) (streams.parent (streams.parent t))
      (old.state (streams.parent t)) (coming_within m streams old n (streams.parent t)) t)
      (subst (λ q. under_way old q t ≡ line ∷ under_way new q t)
      (sym takes.takes_from.parent) under_way_taken)
      ∙ ap (λ v. line ∷ (under_way new (streams.parent t) t ++ v)) (sym (coming_from_still m
      streams old new n t (takes.delivers.other_states (streams.parent t) other_parent)
      (kept.steady (streams.parent t) other_parent (flow.nearer t n d))))
    where
      other_parent : streams.parent t ≢ t
      other_parent = flow.other t n d

  kept_at : (n : ℕ) → IsKeptAt m streams t line old new n
  unfolding coming_within
  kept_at zero = record { steady = λ u o d. refl; taken = λ k e d. absurd (deep d) }
  kept_at (suc n) = go (kept_at n)
    where
      behind : (k : ℕ) (u : Name) → IsKeptAt m streams t line old new k
          → (k ≡ 0) ⊎ (streams.depth t ≡ k) → streams.depth u ≡ suc k → streams.parent u ≡ t
          → coming_within m streams new (suc k) u ≡ coming_within m streams old (suc k) u
      behind zero u kept c d e = steady_root u e d
      behind (suc k) u kept (inl z) d e = let q : ⊥ = omega arith in absurd q
      behind (suc k) u kept (inr z) d e = steady_behind (suc k) u e (kept.taken k refl z)

      go : IsKeptAt m streams t line old new n → IsKeptAt m streams t line old new (suc n)
      go kept =
          record {
            steady = λ u o c. elim c [
              | inl z ↦ (let q : ⊥ = omega arith in absurd q)
              | inr d ↦ elim (tell (streams.parent u) t) [
                | alike _ e ↦ behind n u kept
                    (subst (λ v. (n ≡ 0) ⊎ (streams.depth v ≡ n)) e (flow.nearer u n d)) d e
                | unlike _ i ↦ steady_beside n u o d i kept
              ]
            ];
            taken = λ k e d. taken_more n d kept;
          }

  -- what is coming to each server
  pub coming_steady : (u : Name) → u ≢ t → coming m streams new u ≡ coming m streams old u
  coming_steady u o = (kept_at (streams.depth u)).steady u o (inr refl)

  pub coming_taken : coming m streams old t ≡ line ∷ coming m streams new t
  coming_taken = (kept_at (streams.depth t)).taken depth_of.0 depth_of.1 refl

  pub final_kept : (u : Name) → final m streams new u ≡ final m streams old u
  final_kept u = elim (tell u t) [
    | alike _ e ↦ subst (λ v. final m streams new v
        ≡ final m streams old v) (sym e) at_taker
    | unlike _ o ↦ elsewhere o
  ]
    where
      at_taker : final m streams new t ≡ final m streams old t
      at_taker =
          ap (λ s. after m t (streams.parent t) s (coming m streams new t)) (takes.delivers.moved
          ∙ ap (λ q. m.step t q (old.state t) line) (sym takes.takes_from.parent))
          ∙ ap (λ lines. after m t (streams.parent t) (old.state t) lines) (sym coming_taken)

      elsewhere : u ≢ t → final m streams new u ≡ final m streams old u
      elsewhere o =
          ap (λ s. after m u (streams.parent u) s (coming m streams new u))
          (takes.delivers.other_states u o)
          ∙ ap (λ lines. after m u (streams.parent u) (old.state u) lines) (coming_steady u o)

  pub told_kept : (u : Name) → final_shown m streams new u ≡ final_shown m streams old u
  told_kept u = elim (tell u t) [
    | alike _ e ↦ subst (λ v. final_shown m streams new v
        ≡ final_shown m streams old v) (sym e) at_taker
    | unlike _ o ↦ elsewhere o
  ]
    where
      at_taker : final_shown m streams new t ≡ final_shown m streams old t
      at_taker =
          ap (λ v. v ++ shown_upon m t (streams.parent t) (new.state t)
          (coming m streams new t)) takes.delivers.showed
          ∙ append_assoc (old.shown t) (m.shows t p (old.state t) line)
          (shown_upon m t (streams.parent t) (new.state t) (coming m streams new t))
          ∙ ap (λ s. old.shown t ++ (m.shows t p (old.state t) line ++ shown_upon m t
          (streams.parent t) s (coming m streams new t))) takes.delivers.moved
          ∙ ap (λ q. old.shown t ++ (m.shows t q (old.state t) line ++ shown_upon m t
          (streams.parent t) (m.step t q (old.state t) line) (coming m streams new t)))
          (sym takes.takes_from.parent)
          ∙ ap (λ lines. old.shown t ++ shown_upon m t (streams.parent t) (old.state t) lines)
          (sym coming_taken)

      elsewhere : u ≢ t → final_shown m streams new u ≡ final_shown m streams old u
      elsewhere o =
          ap (λ v. v ++ shown_upon m u (streams.parent u) (new.state u) (coming m streams new u))
          (takes.delivers.other_shown u o)
          ∙ ap (λ s. old.shown u ++ shown_upon m u (streams.parent u) s (coming m streams new u))
          (takes.delivers.other_states u o)
          ∙ ap (λ lines. old.shown u ++ shown_upon m u (streams.parent u) (old.state u) lines)
          (coming_steady u o)
