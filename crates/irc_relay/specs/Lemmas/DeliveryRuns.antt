-- Deliveries one after another, in any order.
use Rattle.std.proofs.Common.{◌≡◌, ◌≢◌, ℕ, zero, suc, List, [], ◌∷◌, ◌++◌, inl, inr, refl, sym, ap}
use Rattle.std.proofs.Common.{subst, ◌∙◌, arith}
use Rattle.std.proofs.lemmas.List.{append-nil}
use Rattle.irc_relay.specs.Links.{Name, Link, AreLinked}
use Rattle.irc_relay.specs.Relay.{Machine, RelayState, Streams, after, shown_upon, under_way}
use Rattle.irc_relay.specs.Relay.{coming}
use Rattle.irc_relay.specs.Relay.{final, final_shown, IsAtRest, TakesFrom, GoesAway, Delivers}
use Rattle.irc_relay.specs.Relay.{Relays, SameOutcome, Reaches, stays, goes_on, IsFront, IsOnTheWay}
use Rattle.irc_relay.specs.Lemmas.TellingNames.{Telling, alike, unlike, tell}
use Rattle.irc_relay.specs.Lemmas.StreamsFlow.{IsFlow}
use Rattle.irc_relay.specs.Lemmas.Deliveries.{coming_at_rest}
use Rattle.irc_relay.specs.Lemmas.ReturnedLines.{taker_from, delivery_outcome}

-- where the first line of two lists together comes from
pub data Begins {A : Type 0} (xs ys : List A) (l : A) (ls : List A) : Type 0 where
  in_front : (a : A) (as' : List A) → xs ≡ a ∷ as' → Begins xs ys l ls
  behind : ys ≡ l ∷ ls → Begins xs ys l ls

pub begins : {A : Type 0} (xs ys : List A) (l : A) (ls : List A) → xs ++ ys ≡ l ∷ ls
    → Begins xs ys l ls
begins [] ys l ls e = behind e
begins (a ∷ as') ys l ls e = in_front a as' refl

-- after a delivery too, all that is under way comes to a server from its parent
pub delivery_away : {State Line Shown : Type 0} (m : Machine State Line Shown)
    (links : List Link) (streams : Streams) (p t : Name) (line : Line) (back : List Line)
    (old new : RelayState State Line Shown) → IsFlow links streams → GoesAway streams old
    → Delivers m p t line back old new → Relays m links streams p t line back old
    → GoesAway streams new
delivery_away {State} {Line} {Shown} m links streams p t line back old new flow away d r x y l ls
    e = go (tell x t) (tell y p) (tell x p) (tell y t)
  where
    takes_from : TakesFrom streams t p
    takes_from = taker_from m streams p t line back old new away d

    linked : AreLinked links t y → y ≢ p → (n : ℕ) → streams.depth t ≡ n → TakesFrom streams y t
    linked h o zero z = let b = takes_from.below in let q : ⊥ = omega arith in absurd q
    linked h o (suc k) z =
        elim (flow.one_way t y k z h) [ inl f ↦ absurd (o (sym f ∙ takes_from.parent)) | inr f ↦ f ]

    returned : x ≡ t → y ≡ p → Begins (under_way old t p) back l ls → TakesFrom streams p t
    returned f g (in_front a as' h) = away t p a as' h
    returned f g (behind h) = record {
      parent = (r.back_to_end l ls h).0;
      below = let one = (r.back_to_end l ls h).1 in omega arith;
    }

    sent : y ≢ p → Begins (under_way old t y) (m.sends t p (old.state t) line y) l ls
        → TakesFrom streams y t
    sent o (in_front a as' h) = away t y a as' h
    sent o (behind h) = linked (r.to_linked y l ls h) o (streams.depth t) refl

    other : x ≢ t → (x ≡ p → y ≡ t → ⊥) → TakesFrom streams y x
    other n o = away x y l ls (sym (ap (λ v. v ++ new.owed x y) (d.other_queues x y n o)
        ∙ ap (λ v. old.queue x y ++ v) (d.other_debts x y n)) ∙ e)

    go : Telling x t → Telling y p → Telling x p → Telling y t → TakesFrom streams y x
    go (alike _ f) (alike _ g) _ _ =
        subst
        (λ v. TakesFrom streams v x)
        (sym g)
        (subst
        (λ v. TakesFrom streams p v)
        (sym f)
        (returned f g (begins (under_way old t p) back l ls (sym d.returned ∙ ap
        (λ v. under_way new v p) (sym f) ∙ ap (λ v. under_way new x v) (sym g) ∙ e))))
    go (alike _ f) (unlike _ o) _ _ =
        subst
        (λ v. TakesFrom streams y v)
        (sym f)
        (sent o (begins (under_way old t y) (m.sends t p (old.state t) line y) l ls
        (sym (d.sent y o) ∙ ap (λ v. under_way new v y) (sym f) ∙ e)))
    go (unlike _ n) _ (alike _ f) (alike _ g) = subst (λ v. TakesFrom streams v x) (sym g)
        (subst (λ v. TakesFrom streams t v) (sym f) takes_from)
    go (unlike _ n) _ (alike _ f) (unlike _ o) = other n (λ _ g. o g)
    go (unlike _ n) _ (unlike _ o) _ = other n (λ g _. o g)

-- a run keeps what every state will be and what every server will have shown
pub run_outcome : {State Line Shown : Type 0} (m : Machine State Line Shown) (links : List Link)
    (streams : Streams) (start : RelayState State Line Shown) (n : ℕ)
    (end : RelayState State Line Shown)
    → IsFlow links streams → GoesAway streams start → Reaches m links streams start n end
    → SameOutcome m streams start end × GoesAway streams end
run_outcome m links streams start n end flow away stays =
    (record { same_final = λ u. refl; same_told = λ u. refl }, away)
run_outcome m links streams start n end flow away
    (goes_on {n = k} {mid = mid} {new = new} p t line back run d r) =
    let before = run_outcome m links streams start k mid flow away run in
    let step = delivery_outcome m links streams p t line back mid new flow before.1 d r in (
      record {
        same_final = λ u. step.same_final u ∙ before.0.same_final u;
        same_told = λ u. step.same_told u ∙ before.0.same_told u;
      },
      delivery_away m links streams p t line back mid new flow before.1 d r,
    )

-- at rest nothing is coming
pub rest_final : {State Line Shown : Type 0} (m : Machine State Line Shown) (streams : Streams)
    (net : RelayState State Line Shown) (u : Name) → IsAtRest net
    → final m streams net u ≡ net.state u
rest_final m streams net u rest = ap (λ lines. after m u (streams.parent u) (net.state u) lines)
    (coming_at_rest m streams net rest (streams.depth u) u)

pub rest_told : {State Line Shown : Type 0} (m : Machine State Line Shown)
    (streams : Streams) (net : RelayState State Line Shown) (u : Name) → IsAtRest net
    → final_shown m streams net u ≡ net.shown u
rest_told m streams net u rest =
    ap (λ lines. net.shown u ++ shown_upon m u (streams.parent u) (net.state u) lines)
    (coming_at_rest m streams net rest (streams.depth u) u) ∙ append-nil (net.shown u)

pub front_of_told : {State Line Shown : Type 0} (m : Machine State Line Shown) (streams : Streams)
    (net : RelayState State Line Shown) (u : Name)
    → IsFront (net.shown u) (final_shown m streams net u)
front_of_told m streams net u =
    (shown_upon m u (streams.parent u) (net.state u) (coming m streams net u), refl)

pub run_on_the_way : {State Line Shown : Type 0} (m : Machine State Line Shown) (links : List Link)
    (streams : Streams) (start : RelayState State Line Shown) (n : ℕ)
    (now : RelayState State Line Shown)
    → IsFlow links streams → GoesAway streams start → Reaches m links streams start n now
    → IsOnTheWay m streams start now
run_on_the_way m links streams start n now flow away run =
    let kept = run_outcome m links streams start n now flow away run in
    record {
      outcome = kept.0;
      goes_away = kept.1;
      front = λ u. (
        shown_upon m u (streams.parent u) (now.state u) (coming m streams now u),
        kept.0.same_told u,
      );
      state_at_rest = λ u rest. sym (rest_final m streams now u rest) ∙ kept.0.same_final u;
      shown_at_rest = λ u rest. sym (rest_told m streams now u rest) ∙ kept.0.same_told u;
    }
