-- A fact of each line at its turn is kept by every delivery.
use Rattle.std.proofs.Common.{◌≡◌, ◌≢◌, ℕ, zero, suc, List, [], ◌∷◌, ◌++◌, refl, sym, ap, subst}
use Rattle.std.proofs.Common.{◌∙◌, arith}
use Rattle.irc_relay.specs.Links.{Name, Link, IsForest, toward}
use Rattle.irc_relay.specs.Relay.{Machine, RelayState, Streams, streams_from, Covers, TakesFrom}
use Rattle.irc_relay.specs.Relay.{GoesAway}
use Rattle.irc_relay.specs.Relay.{Delivers, Relays, ComesOn, after, coming, final}
use Rattle.irc_relay.specs.Following.{Fact, AllAlong, GoesWell}
use Rattle.irc_relay.specs.Lemmas.TellingNames.{alike, unlike, tell}
use Rattle.irc_relay.specs.Lemmas.StreamsFlow.{IsFlow, covers_flows}
use Rattle.irc_relay.specs.Lemmas.ReturnedLines.{taker_from, delivery_comes}

pub all_along_both : {State Line Shown : Type 0} (m : Machine State Line Shown)
    (good : Fact State Line) (p t : Name) (s : State) (xs ys : List Line) → AllAlong m good p t s xs
    → AllAlong m good p t (after m t p s xs) ys → AllAlong m good p t s (xs ++ ys)
all_along_both m good p t s [] ys first second = second
all_along_both m good p t s (line ∷ xs) ys first second =
    (first.0, all_along_both m good p t (m.step t p s line) xs ys first.1 second)

module _ (State Line Shown : Type 0) (m : Machine State Line Shown) (links : List Link)
    (streams : Streams) (p t : Name) (line : Line) (back : List Line)
    (old new : RelayState State Line Shown) (flow : IsFlow links streams)
    (away : GoesAway streams old)
    (d : Delivers m p t line back old new)
    (r : Relays m links streams p t line back old) (good : Fact State Line) where
  comes : ComesOn m streams p t line back old new
  comes = delivery_comes m links streams p t line back old new flow away d r

  takes_from : TakesFrom streams t p
  takes_from = taker_from m streams p t line back old new away d

  giver : p ≢ t
  giver e = go (streams.depth t) refl
    where
      go : (n : ℕ) → streams.depth t ≡ n → ⊥
      go zero z = let b = takes_from.below in omega arith
      go (suc k) z = flow.other t k z (takes_from.parent ∙ e)

  -- the taker has taken one line
  at_taker : AllAlong m good (streams.parent t) t (old.state t) (coming m streams old t)
      → AllAlong m good (streams.parent t) t (new.state t) (coming m streams new t)
  at_taker well =
      subst (λ s. AllAlong m good (streams.parent t) t s (coming m streams new t)) (sym moved)
      (subst (λ lines. AllAlong m good (streams.parent t) t (old.state t) lines) comes.taken well).1
    where
      moved : new.state t ≡ m.step t (streams.parent t) (old.state t) line
      moved = d.moved ∙ ap (λ q. m.step t q (old.state t) line) (sym takes_from.parent)

  -- the giver has what was returned to come behind all else
  at_giver : AllAlong m good (streams.parent p) p (old.state p) (coming m streams old p)
      → AllAlong m good (streams.parent p) p (final m streams old p) back
      → AllAlong m good (streams.parent p) p (new.state p) (coming m streams new p)
  at_giver well returned =
      subst (λ s. AllAlong m good (streams.parent p) p s (coming m streams new p))
      (sym (d.other_states p giver))
      (subst (λ lines. AllAlong m good (streams.parent p) p (old.state p) lines)
      (sym comes.returned)
      (all_along_both m good (streams.parent p) p (old.state p)
      (coming m streams old p) back well returned))

  elsewhere : (u : Name) → u ≢ t → u ≢ p
      → AllAlong m good (streams.parent u) u (old.state u) (coming m streams old u)
      → AllAlong m good (streams.parent u) u (new.state u) (coming m streams new u)
  elsewhere u n o well =
      subst (λ s. AllAlong m good (streams.parent u) u s (coming m streams new u))
      (sym (d.other_states u n))
      (subst (λ lines. AllAlong m good (streams.parent u) u (old.state u) lines)
      (sym (comes.steady u n o)) well)

  pub well_kept : GoesWell m streams good old → AllAlong m good (streams.parent p) p
      (final m streams old p) back → GoesWell m streams good new
  well_kept well returned u = elim (tell u t) [
    | alike _ e ↦ subst (λ v. AllAlong m good (streams.parent v) v (new.state v)
        (coming m streams new v)) (sym e) (at_taker (well t))
    | unlike _ n ↦ elim (tell u p) [
      | alike _ e ↦ subst (λ v. AllAlong m good (streams.parent v) v (new.state v)
          (coming m streams new v)) (sym e) (at_giver (well p) returned)
      | unlike _ o ↦ elsewhere u n o (well u)
    ]
  ]

-- What goes well still does after a delivery, where what was returned goes well at the state that
-- its receiver comes to.
pub delivery_goes_well : {State Line Shown : Type 0} (m : Machine State Line Shown)
    (links : List Link) (source : Name → Name) (p t : Name) (line : Line)
    (back : List Line) (old new : RelayState State Line Shown) (good : Fact State Line)
    → IsForest links
    → Covers links source
    → GoesAway (streams_from links source) old → Delivers m p t line back old new
    → Relays m links (streams_from links source) p t line back old
    → GoesWell m (streams_from links source) good old
    → AllAlong m good (toward links p (source p)) p (final m (streams_from links source) old p) back
    → GoesWell m (streams_from links source) good new
delivery_goes_well {State} {Line} {Shown} m links source p t line back old new good forest covers
    away d r =
    well_kept State Line Shown m links (streams_from links source) p t line back old new
    (covers_flows links source forest covers) away d r good
