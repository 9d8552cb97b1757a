-- A delivery upon which some lines are returned: one that returns none, and then those lines are
-- put behind.
use Rattle.std.proofs.Common.{◌≡◌, ◌≢◌, ℕ, zero, suc, true, false, ◌&&◌, List, [], ◌∷◌, ◌++◌}
use Rattle.std.proofs.Common.{if◌then◌else◌, refl, sym, ap, subst, ◌∙◌, arith}
use Rattle.std.proofs.lemmas.List.{append-nil}
use Rattle.irc_relay.specs.Links.{Name, same, Link}
use Rattle.irc_relay.specs.Relay.{Machine, RelayState, Streams, passed_on, under_way, coming_within}
use Rattle.irc_relay.specs.Relay.{coming, final, TakesFrom, GoesAway, AreHarmless, Delivers, Relays}
use Rattle.irc_relay.specs.Relay.{SameOutcome, ComesOn, Pays}
use Rattle.irc_relay.specs.Lemmas.TellingNames.{Telling, alike, unlike, tell, same_when}
use Rattle.irc_relay.specs.Lemmas.StreamsFlow.{IsFlow}
use Rattle.irc_relay.specs.Lemmas.Deliveries.{Takes}
use Rattle.irc_relay.specs.Lemmas.Deliveries as delivering
use Rattle.irc_relay.specs.Lemmas.AddedLines as adding
use Rattle.irc_relay.specs.Lemmas.AddedLines.{Adds, AreLast}

-- the oldest line on its way comes from the taker's parent
pub taker_from : {State Line Shown : Type 0} (m : Machine State Line Shown) (streams : Streams)
    (p t : Name) (line : Line) (back : List Line) (old new : RelayState State Line Shown)
    → GoesAway streams old → Delivers m p t line back old new → TakesFrom streams t p
taker_from m streams p t line back old new away d =
    away p t line (new.queue p t ++ old.owed p t) (ap (λ v. v ++ old.owed p t) d.took)

-- the net after the delivery, without what was returned
before_return : {State Line Shown : Type 0} → Name → Name → RelayState State Line Shown
    → RelayState State Line Shown → RelayState State Line Shown
before_return p t old new = record {
  state = new.state;
  shown = new.shown;
  queue = λ x y. if same x t && same y p then old.queue t p else new.queue x y;
  owed = λ x y. if same x t && same y p then old.owed t p else new.owed x y;
}

pair_same : (x y t p : Name) → x ≡ t → y ≡ p → (same x t && same y p) ≡ true
pair_same x y t p e f = ap (λ v. v && same y p) (same_when x t e) ∙ same_when y p f

pair_other : (x y t p : Name) → (x ≡ t → y ≡ p → ⊥) → (same x t && same y p) ≡ false
pair_other x y t p o = go (tell x t) (tell y p)
  where
    go : Telling x t → Telling y p → (same x t && same y p) ≡ false
    go (alike a e) (alike b f) = absurd (o e f)
    go (alike a e) (unlike b n) = ap (λ v. v && same y p) a ∙ b
    go (unlike a n) c = ap (λ v. v && same y p) a

module _ (State Line Shown : Type 0) (m : Machine State Line Shown)
    (links : List Link) (streams : Streams) (p t : Name) (line next : Line)
    (rest : List Line) (old new : RelayState State Line Shown) (flow : IsFlow links streams)
    (away : GoesAway streams old) (d : Delivers m p t line (next ∷ rest) old new)
    (r : Relays m links streams p t line (next ∷ rest) old) where
  takes_from : TakesFrom streams t p
  takes_from = taker_from m streams p t line (next ∷ rest) old new away d

  giver : p ≢ t
  giver e = go (streams.depth t) refl
    where
      go : (n : ℕ) → streams.depth t ≡ n → ⊥
      go zero z = let h = takes_from.below in omega arith
      go (suc k) z = flow.other t k z (takes_from.parent ∙ e)

  mid : RelayState State Line Shown
  unfolding before_return
  mid = before_return p t old new

  mid_back : under_way mid t p ≡ under_way old t p
  unfolding mid
  mid_back =
      ap (λ b. (if b then old.queue t p else new.queue t p)
      ++ (if b then old.owed t p else new.owed t p)) (pair_same t p t p refl refl)

  mid_queue : (x y : Name) → (x ≡ t → y ≡ p → ⊥) → mid.queue x y ≡ new.queue x y
  unfolding mid
  mid_queue x y o = ap (λ b. if b then old.queue t p else new.queue x y) (pair_other x y t p o)

  mid_owed : (x y : Name) → (x ≡ t → y ≡ p → ⊥) → mid.owed x y ≡ new.owed x y
  unfolding mid
  mid_owed x y o = ap (λ b. if b then old.owed t p else new.owed x y) (pair_other x y t p o)

  mid_way : (x y : Name) → (x ≡ t → y ≡ p → ⊥) → under_way mid x y ≡ under_way new x y
  mid_way x y o =
      ap (λ v. v ++ mid.owed x y) (mid_queue x y o) ∙ ap (λ v. new.queue x y ++ v) (mid_owed x y o)

  first : Takes m links streams p t line old mid
  unfolding mid
  first =
      record {
        delivers =
            record {
              took = d.took ∙ ap (λ v. line ∷ v) (sym (mid_queue p t (λ e f. giver e)));
              moved = d.moved;
              showed = d.showed;
              sent = λ u n. mid_way t u (λ e f. n f) ∙ d.sent u n;
              returned = mid_back ∙ sym (append-nil (under_way old t p));
              other_queues = λ x y n o. mid_queue x y (λ e f. n e) ∙ d.other_queues x y n o;
              other_debts = λ x y n. mid_owed x y (λ e f. n e) ∙ d.other_debts x y n;
              other_states = d.other_states;
              other_shown = d.other_shown;
            };
        no_echo = r.no_echo;
        takes_from = takes_from;
      }

  second : Adds t p (next ∷ rest) mid new
  unfolding mid
  second =
      record {
        put = d.returned ∙ ap (λ v. v ++ next ∷ rest) (sym mid_back);
        others = λ a b o. sym (mid_way a b o);
        states = λ u. refl;
        shown = λ u. refl;
      }

  last : AreLast m streams mid t p
  unfolding coming_within
  last =
      record {
        takes_from = record {
          parent = (r.back_to_end next rest refl).0;
          below = let e = (r.back_to_end next rest refl).1 in omega arith;
        };
        nothing_behind = λ n e. nothing n (let f = (r.back_to_end next rest refl).1 in omega arith);
      }
    where
      nothing : (n : ℕ) → n ≡ 0
          → passed_on m t (streams.parent t) (mid.state t) (coming_within m streams mid n t) p ≡ []
      nothing zero e = refl
      nothing (suc n) e = let q : ⊥ = omega arith in absurd q

  harmless : AreHarmless m p t (final m streams mid p) (next ∷ rest)
  harmless = subst (λ s. AreHarmless m p t s (next ∷ rest)) (sym (delivering.final_kept State Line
      Shown m links streams p t line old mid flow first p)) r.back_harmless

  returned_outcome : SameOutcome m streams old new
  returned_outcome =
      record {
        same_final = λ u. adding.final_kept State Line Shown m links streams t p
            (next ∷ rest) mid new flow second last harmless u
            ∙ delivering.final_kept State Line Shown m links streams p t line old mid flow first u;
        same_told = λ u. adding.told_kept State Line Shown m links streams t p
            (next ∷ rest) mid new flow second last harmless u
            ∙ delivering.told_kept State Line Shown m links streams p t line old mid flow first u;
      }

  returned_comes : ComesOn m streams p t line (next ∷ rest) old new
  returned_comes =
      record {
        taken = delivering.coming_taken State Line Shown m links streams p t line old mid flow first
            ∙ ap (λ v. line ∷ v) (sym (adding.coming_steady State Line Shown m links streams t p
            (next ∷ rest) mid new flow second last harmless t (λ e. giver (sym e))));
        returned = adding.coming_added State Line Shown m links streams t p (next ∷ rest) mid new
            flow second last harmless ∙ ap (λ v. v ++ next ∷ rest) (delivering.coming_steady State
            Line Shown m links streams p t line old mid flow first p giver);
        steady = λ u n o. adding.coming_steady State Line Shown m links streams t p
            (next ∷ rest) mid new flow second last harmless u o ∙ delivering.coming_steady State
            Line Shown m links streams p t line old mid flow first u n;
      }

-- a delivery keeps what every state will be and what every server will have shown
pub delivery_outcome : {State Line Shown : Type 0} (m : Machine State Line Shown)
    (links : List Link) (streams : Streams) (p t : Name) (line : Line) (back : List Line)
    (old new : RelayState State Line Shown) → IsFlow links streams → GoesAway streams old
    → Delivers m p t line back old new → Relays m links streams p t line back old
    → SameOutcome m streams old new
delivery_outcome {State} {Line} {Shown} m links streams p t line [] old new flow away d r =
    let takes : Takes m links streams p t line old new = record {
      delivers = d;
      no_echo = r.no_echo;
      takes_from = taker_from m streams p t line [] old new away d;
    } in
    record {
      same_final =
          delivering.final_kept State Line Shown m links streams p t line old new flow takes;
      same_told = delivering.told_kept State Line Shown m links streams p t line old new flow takes;
    }
delivery_outcome {State} {Line} {Shown} m links streams p t line (next ∷ rest) old new flow away d
    r = returned_outcome State Line Shown m links streams p t line next rest old new flow away d r

-- and changes what is coming by the line that was taken, and those that were returned
pub delivery_comes : {State Line Shown : Type 0} (m : Machine State Line Shown)
    (links : List Link) (streams : Streams) (p t : Name) (line : Line) (back : List Line)
    (old new : RelayState State Line Shown) → IsFlow links streams → GoesAway streams old
    → Delivers m p t line back old new → Relays m links streams p t line back old
    → ComesOn m streams p t line back old new
delivery_comes {State} {Line} {Shown} m links streams p t line [] old new flow away d r =
    let takes : Takes m links streams p t line old new = record {
      delivers = d;
      no_echo = r.no_echo;
      takes_from = taker_from m streams p t line [] old new away d;
    } in
    record {
      taken = delivering.coming_taken State Line Shown m links streams p t line old new flow takes;
      returned = delivering.coming_steady State Line Shown m links streams p t line old
          new flow takes p (λ e. not_self (streams.depth t) refl takes.takes_from e)
          ∙ sym (append-nil (coming m streams old p));
      steady = λ u n o.
          delivering.coming_steady State Line Shown m links streams p t line old new flow takes u n;
    }
  where
    not_self : (n : ℕ) → streams.depth t ≡ n → TakesFrom streams t p → p ≡ t → ⊥
    not_self zero z h e = let b = h.below in omega arith
    not_self (suc k) z h e = flow.other t k z (h.parent ∙ e)
delivery_comes {State} {Line} {Shown} m links streams p t line (next ∷ rest) old new flow away d r =
    returned_comes State Line Shown m links streams p t line next rest old new flow away d r

-- a server that pays what it owes sends it: what is under way does not change by that
pub paying_delivers : {State Line Shown : Type 0} (m : Machine State Line Shown) (p t : Name)
    (line : Line) (back : List Line) (old new : RelayState State Line Shown)
    → Pays m p t line back old new
    → Delivers m p t line back old new
paying_delivers m p t line back old new d =
    record {
      took = d.took;
      moved = d.moved;
      showed = d.showed;
      sent = λ u n. ap (λ v. new.queue t u ++ v) (d.paid u) ∙ append-nil (new.queue t u)
          ∙ d.sent u n;
      returned = ap (λ v. new.queue t p ++ v) (d.paid p) ∙ append-nil (new.queue t p) ∙ d.returned;
      other_queues = d.other_queues;
      other_debts = d.other_debts;
      other_states = d.other_states;
      other_shown = d.other_shown;
    }
