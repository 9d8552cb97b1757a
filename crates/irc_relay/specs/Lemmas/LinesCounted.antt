-- How many lines are coming, after a delivery.
use Rattle.std.proofs.Common.{◌≡◌, ◌≢◌, ℕ, zero, suc, ◌+◌, ◌*◌, ◌<◌, ◌≤◌, Bool, true, false, cond}
use Rattle.std.proofs.Common.{List, [], ◌∷◌, length, sum_by, count_by, inl, inr, refl, sym, ap}
use Rattle.std.proofs.Common.{subst, ◌∙◌, arith, length-append}
use Rattle.std.proofs.lemmas.List.Sums.{sum_by-cons, sum_by-append}
use Rattle.irc_relay.specs.Links.{Name, same, Link}
use Rattle.irc_relay.specs.Relay.{Machine, RelayState, Streams, coming, TakesFrom, GoesAway}
use Rattle.irc_relay.specs.Relay.{Delivers}
use Rattle.irc_relay.specs.Relay.{Relays, ComesOn, lines_coming, lines_pending, AnswersOnce}
use Rattle.irc_relay.specs.Relay.{IsCounted}
use Rattle.irc_relay.specs.Lemmas.TellingNames.{Telling, alike, unlike, tell}
use Rattle.irc_relay.specs.Lemmas.StreamsFlow.{IsFlow}
use Rattle.irc_relay.specs.Lemmas.ReturnedLines.{taker_from, delivery_comes}

combine : (a f c cp b h g k ct : ℕ) → f + cp * b ≡ g + ct → a + c * b ≡ h + k
    → (a + f) + (c + cp) * b ≡ (h + g) + (k + ct)
combine a f c cp b h g k ct e i = omega arith

-- two lists of numbers that differ at t by one and at p by b
two_points : (f g : Name → ℕ) (t p : Name) (b : ℕ) → t ≢ p → f t ≡ suc (g t)
    → g p ≡ f p + b → ((u : Name) → u ≢ t → u ≢ p → g u ≡ f u) → (xs : List Name)
    → sum_by f xs + count_by (same p) xs * b ≡ sum_by g xs + count_by (same t) xs
two_points f g t p b n e i h [] = omega arith
two_points f g t p b n e i h (x ∷ xs) =
    rw (
      sum_by-cons f x xs,
      sum_by-cons g x xs,
      sum_by-cons (λ u. cond (same p u) 1 0) x xs,
      sum_by-cons (λ u. cond (same t u) 1 0) x xs,
    )
    (combine (f x) (sum_by f xs) (cond (same p x) 1 0) (count_by (same p) xs) b (g x) (sum_by g xs)
    (cond (same t x) 1 0) (count_by (same t) xs) (two_points f g t p b n e i h xs)
    (at (tell t x) (tell p x)))
  where
    number : (r : Bool) (s : Bool) → r ≡ s → cond r 1 0 ≡ cond {A = ℕ} s 1 0
    number r s q = ap (λ v. cond {A = ℕ} v 1 0) q

    at : Telling t x → Telling p x → f x + cond (same p x) 1 0 * b ≡ g x + cond (same t x) 1 0
    at (alike v q) (alike w r) = absurd (n (q ∙ sym r))
    at (alike v q) (unlike w r) =
        let here : f x ≡ suc (g x) = subst (λ u. f u ≡ suc (g u)) q e in
        rw (number (same p x) false w, number (same t x) true v) (omega arith)
    at (unlike v q) (alike w r) =
        let here : g x ≡ f x + b = subst (λ u. g u ≡ f u + b) r i in
        rw (number (same p x) true w, number (same t x) false v) (omega arith)
    at (unlike v q) (unlike w r) =
        let here : g x ≡ f x = h x (λ k. q (sym k)) (λ k. r (sym k)) in
        rw (number (same p x) false w, number (same t x) false v) (omega arith)

-- the taker is not the giver
apart_from : (links : List Link) (streams : Streams) (p t : Name) → IsFlow links streams
    → TakesFrom streams t p → t ≢ p
apart_from links streams p t flow h e = go (streams.depth t) refl
  where
    go : (n : ℕ) → streams.depth t ≡ n → ⊥
    go zero z = let b = h.below in omega arith
    go (suc k) z = flow.other t k z (h.parent ∙ sym e)

-- where nothing is returned, each place of the taker in the list counts one less
pub delivery_sums : {State Line Shown : Type 0} (m : Machine State Line Shown) (links : List Link)
    (streams : Streams) (p t : Name) (line : Line) (old new : RelayState State Line Shown)
    (servers : List Name) → IsFlow links streams → GoesAway streams old
    → Delivers m p t line [] old new → Relays m links streams p t line [] old
    → lines_coming m streams old servers ≡ lines_coming m streams new servers + count_by
    (same t) servers
delivery_sums m links streams p t line old new servers flow away d r =
    go (delivery_comes m links streams p t line [] old new flow away d r)
  where
    go : ComesOn m streams p t line [] old new → lines_coming m streams old servers
        ≡ lines_coming m streams new servers + count_by (same t) servers
    go comes =
        let sums = two_points (λ u. length (coming m streams old u))
        (λ u. length (coming m streams new u)) t p 0 (apart_from links streams p t flow
        (taker_from m streams p t line [] old new away d)) (ap length comes.taken)
        (ap length comes.returned ∙ length-append (coming m streams old p) [])
        (λ u n o. ap length (comes.steady u n o)) servers in
        omega arith

-- one line less is coming, and those more that were returned
pub delivery_counts : {State Line Shown : Type 0} (m : Machine State Line Shown)
    (links : List Link) (streams : Streams) (p t : Name) (line : Line)
    (back : List Line) (old new : RelayState State Line Shown) (servers : List Name)
    → IsFlow links streams → GoesAway streams old → IsCounted streams servers
    → Delivers m p t line back old new → Relays m links streams p t line back old
    → lines_coming m streams old servers + length back ≡ suc (lines_coming m streams new servers)
delivery_counts {State} {Line} {Shown} m links streams p t line back old new servers flow away
    counted d r = go back refl
  where
    comes : ComesOn m streams p t line back old new
    comes = delivery_comes m links streams p t line back old new flow away d r

    takes_from : TakesFrom streams t p
    takes_from = taker_from m streams p t line back old new away d

    sums : lines_coming m streams old servers + count_by (same p) servers * length back
        ≡ lines_coming m streams new servers + count_by (same t) servers
    sums =
        two_points
        (λ u. length (coming m streams old u))
        (λ u. length (coming m streams new u))
        t
        p
        (length back)
        (apart_from links streams p t flow takes_from)
        (ap length comes.taken)
        (ap length comes.returned ∙ length-append (coming m streams old p) back)
        (λ u n o. ap length (comes.steady u n o))
        servers

    go : (lines : List Line) → back ≡ lines → lines_coming m streams old servers + length back
        ≡ suc (lines_coming m streams new servers)
    go [] e =
        let once = counted t takes_from.below in
        let none : count_by (same p) servers * length back ≡ 0 = rw e (omega arith) in
        let zero_back : length back ≡ 0 = ap length e in
        omega (arith, sums)
    go (next ∷ rest) e =
        let once = counted t takes_from.below in
        let one = (r.back_to_end next rest e).1 in
        let giver_once : count_by (same p) servers ≡ 1 = counted p (omega arith) in
        let all : count_by (same p) servers * length back ≡ length back =
        rw giver_once (omega arith) in
        omega (arith, sums)

-- the lines that may be answered, of those that are coming
pub delivery_answered : {State Line Shown : Type 0} (m : Machine State Line Shown)
    (streams : Streams) (answered : Line → Bool) (p t u : Name)
    (line : Line) (back : List Line) (old new : RelayState State Line Shown)
    → ComesOn m streams p t line back old new → count_by answered back ≡ 0 → t ≢ p
    → (count_by answered (coming m streams new u) ≤ count_by answered (coming m streams old u))
    × (u ≡ t → answered line ≡ true → count_by answered (coming m streams old u)
    ≡ suc (count_by answered (coming m streams new u)))
delivery_answered m streams answered p t u line back old new comes none n = go (tell u t) (tell u p)
  where
    at_taker : count_by answered (coming m streams old t) ≡ cond (answered line) 1 0
        + count_by answered (coming m streams new t)
    at_taker = ap (count_by answered) comes.taken
        ∙ sum_by-cons (λ v. cond (answered v) 1 0) line (coming m streams new t)

    at_giver : count_by answered (coming m streams new p) ≡ count_by answered
        (coming m streams old p) + count_by answered back
    at_giver = ap (count_by answered) comes.returned
        ∙ sum_by-append (λ v. cond (answered v) 1 0) (coming m streams old p) back

    go : Telling u t → Telling u p
        → (count_by answered (coming m streams new u) ≤ count_by answered (coming m streams old u))
        × (u ≡ t → answered line ≡ true → count_by answered (coming m streams old u)
        ≡ suc (count_by answered (coming m streams new u)))
    go (alike _ e) _ =
        subst
        (λ v. (count_by answered (coming m streams new v) ≤ count_by answered
        (coming m streams old v)) × (v ≡ t → answered line ≡ true → count_by answered
        (coming m streams old v) ≡ suc (count_by answered (coming m streams new v))))
        (sym e) (
          omega (arith, at_taker),
          λ _ h. let one : cond {A = ℕ} (answered line) 1 0 ≡ 1 = ap (λ v. cond {A = ℕ} v 1 0) h in
              omega (arith, at_taker),
        )
    go (unlike _ k) (alike _ e) = (
      subst (λ v. count_by answered (coming m streams new v) ≤ count_by answered
          (coming m streams old v)) (sym e) (omega (arith, at_giver)),
      λ q _. absurd (k q),
    )
    go (unlike _ k) (unlike _ o) =
        (let e = ap (count_by answered) (comes.steady u k o) in omega arith, λ q _. absurd (k q))

pub delivery_pending : {State Line Shown : Type 0} (m : Machine State Line Shown)
    (links : List Link) (streams : Streams) (answered : Line → Bool) (a b p t : Name)
    (line : Line) (back : List Line) (old new : RelayState State Line Shown) (servers : List Name)
    → IsFlow links streams → GoesAway streams old → IsCounted streams servers
    → Delivers m p t line back old new → Relays m links streams p t line back old
    → AnswersOnce answered a b p t line back → lines_pending m streams new servers answered a b
    < lines_pending m streams old servers answered a b
delivery_pending {State} {Line} {Shown} m links streams answered a b p t line back old new servers
    flow away counted d r answers = go back refl
  where
    counts : lines_coming m streams old servers + length back
        ≡ suc (lines_coming m streams new servers)
    counts = delivery_counts m links streams p t line back old new servers flow away counted d r

    fewer : (u : Name) → (count_by answered (coming m streams new u) ≤ count_by answered
        (coming m streams old u)) × (u ≡ t → answered line ≡ true → count_by answered
        (coming m streams old u) ≡ suc (count_by answered (coming m streams new u)))
    fewer u = delivery_answered m streams answered p t u line back old new
        (delivery_comes m links streams p t line back old new flow away d r) answers.not_again
        (apart_from links streams p t flow (taker_from m streams p t line back old new away d))

    go : (lines : List Line) → back ≡ lines → lines_pending m streams new servers answered a b
        < lines_pending m streams old servers answered a b
    go [] e =
        let at_a = (fewer a).0 in
        let at_b = (fewer b).0 in
        let zero_back : length back ≡ 0 = ap length e in
        omega (arith, counts)
    go (next ∷ rest) e =
        let at_a = (fewer a).0 in
        let at_b = (fewer b).0 in
        let few = answers.at_most_one in
        elim (answers.only_between next rest e) [
          | inl h ↦ (let drop_b = (fewer b).1 (sym h.1) (answers.only_upon next rest e) in
              omega (arith, counts))
          | inr h ↦ (let drop_a = (fewer a).1 (sym h.1) (answers.only_upon next rest e) in
              omega (arith, counts))
        ]
