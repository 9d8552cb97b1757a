-- Lines that are taken in turn come to an end: each leaves fewer that are coming.
use Rattle.std.proofs.Common.{◌≡◌, ℕ, zero, suc, ◌+◌, ◌<◌, ◌≤◌, Option, Some, None, refl, ap, arith}
use Rattle.std.proofs.Common.{le_of_suc-le-suc}
use Rattle.std.specs.Option.{option_and_then, option_map_or}
use Rattle.irc_network.specs.Network.{Progress, Direction, Network, TakesInTurn, delivered}
use Rattle.irc_network.specs.Network.{first_direction, lines_left, next_in_turn, none_yet, then_one}
use Rattle.irc_items.specs.Kept.{TurnLeavesFewer, TurnsAreFew}
use Rattle.irc_items.specs.Sound.{most_now, IsSound}
use Rattle.irc_items.proofs.Delivery.Delivering.{leaves_one_fewer, pending_of, AreDeliveryLaws}

pending_few : (net : Network) (sound : IsSound net) → pending_of net sound ≤ most_now net
pending_few net sound = less net.taken (pending_of net sound) (most_now net) (sound.coming.few 0)
  where
    less : (a b c : ℕ) → a + b ≤ c → b ≤ c
    less a b c few = omega (arith, few)

-- ---- as many lines fewer are coming as were taken

record AreTurns (count : ℕ) (old new : Progress Network) (sound : IsSound old.state) : Type 0 where
  sound_now : IsSound new.state
  fewer : pending_of new.state sound_now + count ≤ pending_of old.state sound

turns : AreDeliveryLaws → (count : ℕ) (old new : Progress Network) (sound : IsSound old.state)
    → TakesInTurn count old new → AreTurns count old new sound
turns laws zero old new sound none_yet =
    record { sound_now = sound; fewer = none (pending_of old.state sound) }
  where
    none : (n : ℕ) → n + 0 ≤ n
    none n = omega arith
turns laws (suc count) old new sound (then_one {between = mid} {direction = way} before _ is) =
    let first = turns laws count old mid sound before in
    let last = leaves_one_fewer laws way.from way.to mid new first.sound_now is in
    record {
      sound_now = last.sound_now;
      fewer = added (pending_of old.state sound) (pending_of mid.state first.sound_now)
          (pending_of new.state last.sound_now) count first.fewer last.fewer;
    }
  where
    added : (a b c count : ℕ) → b + count ≤ a → c < b → c + suc count ≤ a
    added a b c count one two = omega arith

pub turns_are_few : AreDeliveryLaws → TurnsAreFew
turns_are_few laws count old new sound takes =
    let all = turns laws count old new sound takes in
    within (pending_of new.state all.sound_now) count (pending_of old.state sound)
    (most_now old.state) all.fewer (pending_few old.state sound)
  where
    within : (a count b most : ℕ) → a + count ≤ b → b ≤ most → count ≤ most
    within a count b most few less = omega arith

-- ---- so many can be taken in turn

-- what is taken first, and then the others
turn_first : {count : ℕ} {first between last : Progress Network} → next_in_turn first ≡ Some between
    → TakesInTurn count between last → TakesInTurn (suc count) first last
turn_first {first = first} {between = between} is none_yet =
    by (first_direction first.state) refl is
  where
    by : (o : Option Direction) → first_direction first.state ≡ o
        → option_and_then (λ (d : Direction). delivered d.from d.to first) o ≡ Some between
        → TakesInTurn 1 first between
    by None none e = absurd (cc e)
    by (Some d) way e = then_one none_yet way e
turn_first is (then_one before way line) = then_one (turn_first is before) way line

record CanBeTaken (count : ℕ) (progress : Progress Network) : Type 0 where
  last : Progress Network
  takes : TakesInTurn count progress last

left_are_taken : (most : ℕ) (progress : Progress Network)
    → CanBeTaken (lines_left most progress) progress
left_are_taken zero progress = record { last = progress; takes = none_yet }
left_are_taken (suc most) progress = by (left_are_taken most) (next_in_turn progress) refl
  where
    by : ((next : Progress Network) → CanBeTaken (lines_left most next) next)
        → (o : Option (Progress Network)) → next_in_turn progress ≡ o
        → CanBeTaken (option_map_or (λ next. suc (lines_left most next)) o 0) progress
    by later None none = record { last = progress; takes = none_yet }
    by later (Some next) is =
        let more = later next in record { last = more.last; takes = turn_first is more.takes }

-- a number that is not reached tells how many are left
same_left : (most : ℕ) (progress : Progress Network) → lines_left (suc most) progress ≤ most
    → lines_left (suc most) progress ≡ lines_left most progress
same_left zero progress few = none (lines_left 1 progress) few
  where
    none : (n : ℕ) → n ≤ 0 → n ≡ 0
    none n few = omega arith
same_left (suc most) progress few = by (same_left most) (next_in_turn progress) few
  where
    below : (n : ℕ) → suc n ≤ suc most → n ≤ most
    below n few = omega arith

    by : ((next : Progress Network) → lines_left (suc most) next ≤ most
        → lines_left (suc most) next ≡ lines_left most next) → (o : Option (Progress Network))
        → option_map_or (λ next. suc (lines_left (suc most) next)) o 0 ≤ suc most
        → option_map_or (λ next. suc (lines_left (suc most) next)) o 0
        ≡ option_map_or (λ next. suc (lines_left most next)) o 0
    by later None few = refl
    by later (Some next) few = ap suc (later next (below (lines_left (suc most) next) few))

pub turn_leaves_fewer : TurnsAreFew → TurnLeavesFewer
turn_leaves_fewer few_turns most old new sound few is = by most few
  where
    left : (n : ℕ) → lines_left (suc n) old ≡ suc (lines_left n new)
    left n = ap (λ o. option_map_or (λ next. suc (lines_left n next)) o 0) is

    bound : (n : ℕ) → most_now old.state ≤ n → suc (lines_left n new) ≤ n
    bound n few =
        let can = left_are_taken (suc n) old in
        within (lines_left (suc n) old) (most_now old.state) n (suc (lines_left n new))
        (few_turns (lines_left (suc n) old) old can.last sound can.takes) few
        (left n)
      where
        within : (count most n more : ℕ) → count ≤ most → most ≤ n → count ≡ more → more ≤ n
        within count most n more one two is = omega (arith, is)

    by : (n : ℕ) → most_now old.state ≤ n → lines_left n new < lines_left n old
    by zero few = absurd (let most = bound zero few in none_below (lines_left zero new) most)
      where
        none_below : (n : ℕ) → suc n ≤ 0 → ⊥
        none_below n less = omega (arith, less)
    by (suc n) few =
        fewer (lines_left (suc n) new) (lines_left n new) (lines_left (suc n) old) (left n)
        (same_left n new (le_of_suc-le-suc (bound (suc n) few)))
      where
        fewer : (a b c : ℕ) → c ≡ suc b → a ≡ b → a < c
        fewer a b c one two = omega (arith, one, two)
