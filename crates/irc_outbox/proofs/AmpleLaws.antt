-- The memory for what connections give and take suffices before each step and behind it.
use Rattle.std.proofs.Common.{◌≡◌, ℕ, ◌+◌, ◌-◌, ◌^◌, ◌≤◌, min, Bool, true, false, cond, nat_eq}
use Rattle.std.proofs.Common.{vec_capacity, is_some, IsSome, IfSome, Option, Some, None, List, []}
use Rattle.std.proofs.Common.{◌∷◌, ◌++◌, length, drop, refl, sym, ◌∙◌, ap, subst, arith, le_refl}
use Rattle.std.proofs.Common.{le-add_right}
use Rattle.std.specs.Option.{option_map}
use Rattle.std.specs.Ordering.{nat_cmp}
use Rattle.std.specs.BTreeMap.{BTreeMap, UpdatesBy, get_by}
use Rattle.std.proofs.lemmas.Bool.{eqb-true, eq-eqb}
use Rattle.std.proofs.lemmas.List.{length-append, length-drop}
use Rattle.std.proofs.lemmas.List.Sums.{sum_by-cons, sum_by_push}
use Rattle.std.proofs.Math.Nat.{min-le_left}
use Rattle.irc_outbox.specs.declared.memory.Far.{Far}
use Rattle.irc_outbox.specs.declared.memory.WireStep.{WireStep}
use Rattle.irc_outbox.specs.declared.memory.WireStep.TheVariants as step
use Rattle.irc_outbox.specs.declared.memory.Way.{Way}
use Rattle.irc_outbox.specs.declared.memory.Way.TheVariants as way
use Rattle.irc_outbox.specs.Ample.{at_hand, count_in, count_out, given_of, gives_of, granted_to}
use Rattle.irc_outbox.specs.Ample.{grants_to, memory_in, memory_out, planned_in, planned_out}
use Rattle.irc_outbox.specs.Ample.{room_of, IsAmple, IsAmpleAt, IsPlannedAt, ArePlanned, Plans}
use Rattle.irc_outbox.specs.Ample.{PlansAt}
use Rattle.irc_outbox.specs.Memory.{WireTold, told_by_far, far_at, with_taken, with_written}
use Rattle.irc_outbox.specs.Memory.{with_close, Changes, at_far, no_far, KeepsMemory, IsFarAdded}
use Rattle.irc_outbox.specs.Memory.{AllFresh, fresh_told}
use Rattle.irc_outbox.specs.Steps.{failed_once, giver_of, is_reported, meets, step_bytes, step_conn}
use Rattle.irc_outbox.specs.Steps.{told_then}
use Rattle.irc_outbox.proofs.MemoryLaws.{by_order}
use Rattle.irc_outbox.proofs.StepLaws.{meets_keeps}

-- A connection holds no more behind a change, what is at hand and what is to come counted.
pub record Suffices (t u : WireTold) (hand given granted hand_then given_then granted_then : ℕ) :
    Type 0 where
  pub inward : length u.taken + hand_then + given_then ≤ length t.taken + hand + given
  pub outward : length u.written + u.room + granted_then ≤ length t.written + t.room + granted

within : (a b c d e f g k : ℕ) → d + e + f ≤ a + b + c → a + b + c ≤ g → g ≤ k → d + e + f ≤ k
within a b c d e f g k less fits more = omega (arith, less, fits, more)

lesser : (a b c e f g : ℕ) → e + f ≤ b + c → a + b + c ≤ g → a + e + f ≤ g
lesser a b c e f g less fits = omega (arith, less, fits)

fewer : (a b c f g : ℕ) → f ≤ c → a + b + c ≤ g → a + b + f ≤ g
fewer a b c f g less fits = omega (arith, less, fits)

-- of any other connection, and of one that no step names
others_ample : (q : ℕ) (far : Option Far) (hand hand_then : Option ℕ) (bytes bytes_then : List ℕ)
    (left left_then : List WireStep) → at_hand q hand_then bytes_then + given_of q left_then
    ≤ at_hand q hand bytes + given_of q left → granted_to q left_then ≤ granted_to q left
    → IsAmpleAt q far hand bytes left → IsAmpleAt q far hand_then bytes_then left_then
others_ample q far hand hand_then bytes bytes_then left left_then less fewer_out is = (
  lesser (count_in far) (at_hand q hand bytes) (given_of q left) (at_hand q hand_then bytes_then)
      (given_of q left_then) (memory_in far) less is.0,
  fewer (count_out far) (room_of far) (granted_to q left) (granted_to q left_then)
      (memory_out far) fewer_out is.1,
)

its_own : (q : ℕ) (far now : Far) (hand hand_then : Option ℕ) (bytes bytes_then : List ℕ)
    (left left_then : List WireStep) (u : WireTold) → told_by_far now ≡ u → KeepsMemory far now
    → Suffices (told_by_far far) u (at_hand q hand bytes) (given_of q left) (granted_to q left)
    (at_hand q hand_then bytes_then) (given_of q left_then) (granted_to q left_then)
    → IsAmpleAt q (Some far) hand bytes left → IsAmpleAt q (Some now) hand_then bytes_then left_then
its_own q far now hand hand_then bytes bytes_then left left_then u is keeps fits ample =
    let there = subst (λ (v : WireTold). Suffices (told_by_far far) v (at_hand q hand bytes)
    (given_of q left) (granted_to q left) (at_hand q hand_then bytes_then)
    (given_of q left_then) (granted_to q left_then)) (sym is) fits in (
      within (length far.taken.items) (at_hand q hand bytes) (given_of q left)
          (length now.taken.items) (at_hand q hand_then bytes_then) (given_of q left_then)
          (vec_capacity far.taken) (vec_capacity now.taken) there.inward ample.0 keeps.taken,
      within (length far.written.items) far.room (granted_to q left)
          (length now.written.items) now.room (granted_to q left_then)
          (vec_capacity far.written) (vec_capacity now.written) there.outward ample.1 keeps.written,
    )

-- There is memory enough still behind a change of one connection.
pub ample_after : (conn : ℕ) (change : WireTold → WireTold) (old new : BTreeMap ℕ Far)
    (hand hand_then : Option ℕ) (bytes bytes_then : List ℕ) (left left_then : List WireStep)
    → ((far : Far) → far_at old conn ≡ Some far → Suffices (told_by_far far) (change
    (told_by_far far)) (at_hand conn hand bytes) (given_of conn left) (granted_to conn left)
    (at_hand conn hand_then bytes_then) (given_of conn left_then) (granted_to conn left_then))
    → ((q : ℕ) → at_hand q hand_then bytes_then + given_of q left_then ≤ at_hand q hand bytes
    + given_of q left) → ((q : ℕ) → granted_to q left_then ≤ granted_to q left)
    → Changes conn change old new → IsAmple old hand bytes left
    → IsAmple new hand_then bytes_then left_then
ample_after conn change old new hand hand_then bytes bytes_then left left_then own less fewer_out
    (no_far none same) all = λ q.
    subst (λ (f : Option Far). IsAmpleAt q f hand_then bytes_then left_then) (sym (same q))
    (others_ample q (far_at old q) hand hand_then bytes bytes_then left left_then (less q)
    (fewer_out q) (all q))
ample_after conn change old new hand hand_then bytes bytes_then left left_then own less fewer_out
    (at_far far now was set so keeps) all = λ q.
    subst (λ (f : Option Far). IsAmpleAt q f hand_then bytes_then left_then) (sym (set q))
    (by q (nat_eq conn q) refl)
  where
    mine : IsAmpleAt conn (Some now) hand_then bytes_then left_then
    mine = its_own conn far now hand hand_then bytes bytes_then left left_then
        (change (told_by_far far)) so keeps (own far was)
        (subst (λ (f : Option Far). IsAmpleAt conn f hand bytes left) was (all conn))

    by : (q : ℕ) (b : Bool) → nat_eq conn q ≡ b
        → IsAmpleAt q (cond b (Some now) (far_at old q)) hand_then bytes_then left_then
    by q true e = subst (λ (n : ℕ). IsAmpleAt n (Some now) hand_then bytes_then left_then)
        (eqb-true conn q e) mine
    by q false e = others_ample q (far_at old q) hand hand_then bytes bytes_then left left_then
        (less q) (fewer_out q) (all q)

-- a change that leaves how much a connection holds, and its room
pub record LeavesCounts (t u : WireTold) : Type 0 where
  pub taken : u.taken ≡ t.taken
  pub written : u.written ≡ t.written
  pub room : u.room ≡ t.room

leaves : (t u : WireTold) (hand given granted : ℕ) → LeavesCounts t u
    → Suffices t u hand given granted hand given granted
leaves t u hand given granted same = record {
  inward = subst (λ (xs : List ℕ). length xs + hand + given ≤ length t.taken + hand + given)
      (sym same.taken) (le_refl (length t.taken + hand + given));
  outward = subst (λ (xs : List ℕ). length xs + u.room + granted ≤ length t.written + t.room
      + granted) (sym same.written)
      (subst (λ (n : ℕ). length t.written + n + granted ≤ length t.written + t.room + granted)
      (sym same.room) (le_refl (length t.written + t.room + granted)));
}

pub ample_as_it_was : (conn : ℕ) (change : WireTold → WireTold)
    (old new : BTreeMap ℕ Far) (hand : Option ℕ) (bytes : List ℕ) (left : List WireStep)
    → ((t : WireTold) → LeavesCounts t (change t)) → Changes conn change old new
    → IsAmple old hand bytes left → IsAmple new hand bytes left
ample_as_it_was conn change old new hand bytes left same =
    ample_after conn change old new hand hand bytes bytes left left
    (λ far was. leaves (told_by_far far) (change (told_by_far far)) (at_hand conn hand bytes)
    (given_of conn left) (granted_to conn left) (same (told_by_far far)))
    (λ q. le_refl (at_hand q hand bytes + given_of q left)) (λ q. le_refl (granted_to q left))

pub failing_leaves : (which : Way) (t : WireTold) → LeavesCounts t (failed_once which t)
failing_leaves way.In t = record { taken = refl; written = refl; room = refl }
failing_leaves way.Out t = record { taken = refl; written = refl; room = refl }

pub closing_leaves : (t : WireTold) → LeavesCounts t (with_close t)
closing_leaves t = record { taken = refl; written = refl; room = refl }

-- ---- a step is looked at

hand_within : (q : ℕ) (step : WireStep) (bytes : List ℕ) → length bytes ≤ length (step_bytes step)
    → at_hand q (giver_of step) bytes ≤ gives_of q step
hand_within q (step.Bytes conn given) bytes fits = by (nat_eq conn q)
  where
    by : (b : Bool) → cond b (length bytes) 0 ≤ cond b (length given.items) 0
    by true = fits
    by false = le_refl 0
hand_within q (step.Client conn host) bytes fits = le_refl 0
hand_within q (step.Linked conn name) bytes fits = le_refl 0
hand_within q (step.End conn) bytes fits = le_refl 0
hand_within q (step.ReadFails conn) bytes fits = le_refl 0
hand_within q (step.Room conn room) bytes fits = le_refl 0
hand_within q (step.WriteFails conn) bytes fits = le_refl 0

room_then : (step : WireStep) (t : WireTold)
    → (told_then step t).room ≤ t.room + grants_to (step_conn step) step
room_then (step.Room conn room) t =
    subst (λ b. min (t.room + room) (2 ^ 64 - 1) ≤ t.room + cond b room 0)
    (sym (eq-eqb conn conn refl)) (min-le_left (t.room + room) (2 ^ 64 - 1))
room_then (step.Client conn host) t = le-add_right t.room 0
room_then (step.Linked conn name) t = le-add_right t.room 0
room_then (step.Bytes conn bytes) t = le-add_right t.room 0
room_then (step.End conn) t = le-add_right t.room 0
room_then (step.ReadFails conn) t = le-add_right t.room 0
room_then (step.WriteFails conn) t = le-add_right t.room 0

room_met : (step : WireStep) (t : WireTold)
    → (meets step t).room ≤ t.room + grants_to (step_conn step) step
room_met step t = by (is_reported step t)
  where
    by : (b : Bool) → (cond b (told_then step t) t).room ≤ t.room + grants_to (step_conn step) step
    by true = room_then step t
    by false = le-add_right t.room (grants_to (step_conn step) step)

in_by : (a b c d e f : ℕ) → d ≤ b + e → f ≡ e + c → a + d + c ≤ a + b + f
in_by a b c d e f less sum = omega (arith, less, sum)

out_by : (a r s e c f : ℕ) → s ≤ r + e → f ≡ e + c → a + s + c ≤ a + r + f
out_by a r s e c f less sum = omega (arith, less, sum)

less_by : (b c d e f : ℕ) → d ≤ b + e → f ≡ e + c → d + c ≤ b + f
less_by b c d e f less sum = omega (arith, less, sum)

rest_by : (c e f : ℕ) → f ≡ e + c → c ≤ f
rest_by c e f sum = omega (arith, sum)

met : (step : WireStep) (old new : BTreeMap ℕ Far) (hand hand_then : Option ℕ)
    (bytes bytes_then : List ℕ) (rest : List WireStep)
    → ((q : ℕ) → at_hand q hand_then bytes_then ≤ at_hand q hand bytes + gives_of q step)
    → Changes (step_conn step) (meets step) old new → IsAmple old hand bytes (step ∷ rest)
    → IsAmple new hand_then bytes_then rest
met step old new hand hand_then bytes bytes_then rest less =
    ample_after (step_conn step) (meets step) old new hand hand_then bytes bytes_then
    (step ∷ rest) rest
    (λ far was. suffices (told_by_far far))
    (λ q. less_by (at_hand q hand bytes) (given_of q rest) (at_hand q hand_then bytes_then)
    (gives_of q step) (given_of q (step ∷ rest)) (less q)
    (sum_by-cons (gives_of q) step rest))
    (λ q. rest_by (granted_to q rest) (grants_to q step) (granted_to q (step ∷ rest))
    (sum_by-cons (grants_to q) step rest))
  where
    suffices : (t : WireTold) → Suffices t (meets step t) (at_hand (step_conn step) hand bytes)
        (given_of (step_conn step) (step ∷ rest)) (granted_to (step_conn step) (step ∷ rest))
        (at_hand (step_conn step) hand_then bytes_then) (given_of (step_conn step) rest)
        (granted_to (step_conn step) rest)
    suffices t = let q = step_conn step in record {
      inward = subst (λ (xs : List ℕ). length xs + at_hand q hand_then bytes_then + given_of q rest
          ≤ length t.taken + at_hand q hand bytes + given_of q (step ∷ rest))
          (sym (meets_keeps step t).taken)
          (in_by (length t.taken) (at_hand q hand bytes) (given_of q rest)
          (at_hand q hand_then bytes_then) (gives_of q step) (given_of q (step ∷ rest))
          (less q) (sum_by-cons (gives_of q) step rest));
      outward = subst (λ (xs : List ℕ). length xs + (meets step t).room + granted_to q rest
          ≤ length t.written + t.room + granted_to q (step ∷ rest))
          (sym (meets_keeps step t).written)
          (out_by (length t.written) t.room (meets step t).room (grants_to q step)
          (granted_to q rest) (granted_to q (step ∷ rest)) (room_met step t)
          (sum_by-cons (grants_to q) step rest));
    }

-- a step is passed over
pub ample_passed : (step : WireStep) (old new : BTreeMap ℕ Far) (hand : Option ℕ)
    (bytes : List ℕ) (rest : List WireStep) → Changes (step_conn step) (meets step) old new
    → IsAmple old hand bytes (step ∷ rest) → IsAmple new hand bytes rest
ample_passed step old new hand bytes rest =
    met step old new hand hand bytes bytes rest
    (λ q. le-add_right (at_hand q hand bytes) (gives_of q step))

more_le : (n m k : ℕ) → n ≤ k → n ≤ m + k
more_le n m k h = omega (arith, h)

-- a step is served
pub ample_served : (step : WireStep) (old new : BTreeMap ℕ Far)
    (hand : Option ℕ) (bytes bytes_then : List ℕ) (rest : List WireStep)
    → Changes (step_conn step) (meets step) old new → length bytes_then ≤ length (step_bytes step)
    → IsAmple old hand bytes (step ∷ rest) → IsAmple new (giver_of step) bytes_then rest
ample_served step old new hand bytes bytes_then rest changes fits =
    met step old new hand (giver_of step) bytes bytes_then rest
    (λ q. more_le (at_hand q (giver_of step) bytes_then) (at_hand q hand bytes) (gives_of q step)
    (hand_within q step bytes_then fits)) changes

-- no step is at hand
pub ample_idle : (fars : BTreeMap ℕ Far) (hand : Option ℕ) (bytes bytes_then : List ℕ)
    (left : List WireStep) → IsAmple fars hand bytes left → IsAmple fars None bytes_then left
ample_idle fars hand bytes bytes_then left all = λ q.
    others_ample q (far_at fars q) hand None bytes bytes_then left left (none_at_hand
    (at_hand q hand bytes) (given_of q left)) (le_refl (granted_to q left)) (all q)
  where
    none_at_hand : (a b : ℕ) → 0 + b ≤ a + b
    none_at_hand a b = omega arith

-- ---- bytes are read and written

read_by : (a n p b : ℕ) → n ≤ p → (a + n) + (p - n) + b ≤ a + p + b
read_by a n p b h = omega (arith, h)

-- Bytes of the step at hand are read.
pub ample_read : (conn n : ℕ) (old new : BTreeMap ℕ Far) (bytes read : List ℕ)
    (left : List WireStep) → n ≤ length bytes → length read ≡ n
    → Changes conn (with_taken read) old new → IsAmple old (Some conn) bytes left
    → IsAmple new (Some conn) (drop n bytes) left
ample_read conn n old new bytes read left within_them is =
    ample_after conn (with_taken read) old new (Some conn) (Some conn) bytes
    (drop n bytes) left left
    (λ far was. suffices (told_by_far far)) (λ q. less q) (λ q. le_refl (granted_to q left))
  where
    suffices : (t : WireTold) → Suffices t (with_taken read t)
        (cond (nat_eq conn conn) (length bytes) 0) (given_of conn left) (granted_to conn left)
        (cond (nat_eq conn conn) (length (drop n bytes)) 0) (given_of conn left)
        (granted_to conn left)
    suffices t = subst (λ b. Suffices t (with_taken read t) (cond b (length bytes) 0)
        (given_of conn left) (granted_to conn left)
        (cond b (length (drop n bytes)) 0) (given_of conn left) (granted_to conn left)) (sym
        (eq-eqb conn conn refl)) (record {
          inward = subst (λ m. m + length (drop n bytes) + given_of conn left
              ≤ length t.taken + length bytes + given_of conn left)
              (sym (length-append t.taken read ∙ ap (λ m. length t.taken + m) is))
              (subst (λ m. (length t.taken + n) + m + given_of conn left ≤ length t.taken
              + length bytes + given_of conn left) (sym (length-drop n bytes))
              (read_by (length t.taken) n (length bytes) (given_of conn left) within_them));
          outward = le_refl (length t.written + t.room + granted_to conn left);
        })

    fewer_left : (b : Bool) (m : ℕ)
        → cond b (length (drop n bytes)) 0 + m ≤ cond b (length bytes) 0 + m
    fewer_left true m = subst (λ k. k + m ≤ length bytes + m) (sym (length-drop n bytes))
        (minus_le (length bytes) n m)
      where
        minus_le : (p n m : ℕ) → (p - n) + m ≤ p + m
        minus_le p n m = omega arith
    fewer_left false m = le_refl (0 + m)

    less : (q : ℕ) → at_hand q (Some conn) (drop n bytes) + given_of q left
        ≤ at_hand q (Some conn) bytes + given_of q left
    less q = fewer_left (nat_eq conn q) (given_of q left)

write_by : (a n r c : ℕ) → n ≤ r → (a + n) + (r - n) + c ≤ a + r + c
write_by a n r c h = omega (arith, h)

-- Bytes are written for which a connection has room.
pub ample_written : (conn : ℕ) (old new : BTreeMap ℕ Far) (hand : Option ℕ) (bytes put : List ℕ)
    (left : List WireStep) → length put ≤ room_of (far_at old conn) → Changes conn
    (with_written put) old new → IsAmple old hand bytes left → IsAmple new hand bytes left
ample_written conn old new hand bytes put left fits =
    ample_after conn (with_written put) old new hand hand bytes bytes left left
    (λ far was. suffices far (subst (λ (f : Option Far). length put ≤ room_of f) was fits))
    (λ q. le_refl (at_hand q hand bytes + given_of q left)) (λ q. le_refl (granted_to q left))
  where
    suffices : (far : Far) → length put ≤ far.room → Suffices (told_by_far far) (with_written put
        (told_by_far far)) (at_hand conn hand bytes) (given_of conn left) (granted_to conn left)
        (at_hand conn hand bytes) (given_of conn left) (granted_to conn left)
    suffices far room = record {
      inward = le_refl (length far.taken.items + at_hand conn hand bytes + given_of conn left);
      outward = subst (λ m. m + (far.room - length put) + granted_to conn left
          ≤ length far.written.items + far.room + granted_to conn left)
          (sym (length-append far.written.items put)) (write_by (length far.written.items)
          (length put) far.room (granted_to conn left) room);
    }

-- ---- the memory is taken

none_of_others : (q : ℕ) (step : WireStep) → nat_eq (step_conn step) q ≡ false
    → (gives_of q step ≡ 0) × (grants_to q step ≡ 0)
none_of_others q (step.Bytes conn bytes) e = (ap (λ b. cond b (length bytes.items) 0) e, refl)
none_of_others q (step.Room conn room) e = (refl, ap (λ b. cond b room 0) e)
none_of_others q (step.Client conn host) e = (refl, refl)
none_of_others q (step.Linked conn name) e = (refl, refl)
none_of_others q (step.End conn) e = (refl, refl)
none_of_others q (step.ReadFails conn) e = (refl, refl)
none_of_others q (step.WriteFails conn) e = (refl, refl)

more_given : (given gives all planned planned_now : ℕ) → all ≡ given + gives
    → planned_now ≡ planned + gives → given ≤ planned → all ≤ planned_now
more_given given gives all planned planned_now sum is fits = omega (arith, sum, is, fits)

as_given : (given gives all planned : ℕ) → all ≡ given + gives → gives ≡ 0 → given ≤ planned
    → all ≤ planned
as_given given gives all planned sum none fits = omega (arith, sum, none, fits)

pub planned_on : (step : WireStep) (old new : BTreeMap ℕ Far) (far now : Far)
    → far_at old (step_conn step) ≡ Some far
    → ((q : ℕ) → far_at new q ≡ cond (nat_eq (step_conn step) q) (Some now) (far_at old q))
    → Plans step (step_conn step) far now → PlansAt step old new
planned_on step old new far now was set plans = record {
  plans = λ steps all q.
      subst (λ (f : Option Far). IsPlannedAt q (steps ++ step ∷ []) f) (sym (set q))
      (by steps all q (nat_eq (step_conn step) q) refl);
}
  where
    mine : (steps : List WireStep) → IsPlannedAt (step_conn step) steps (Some far)
        → IsPlannedAt (step_conn step) (steps ++ step ∷ []) (Some now)
    mine steps is = let q = step_conn step in record {
      given = more_given (given_of q steps) (gives_of q step) (given_of q (steps ++ step ∷ []))
          far.inward now.inward (sum_by_push (gives_of q) steps step) plans.inward is.given;
      inward = plans.memory_in is.inward;
      granted = more_given (granted_to q steps) (grants_to q step)
          (granted_to q (steps ++ step ∷ [])) far.outward now.outward
          (sum_by_push (grants_to q) steps step) plans.outward is.granted;
      outward = plans.memory_out is.outward;
    }

    other : (steps : List WireStep) (q : ℕ) (f : Option Far) → nat_eq (step_conn step) q ≡ false
        → IsPlannedAt q steps f → IsPlannedAt q (steps ++ step ∷ []) f
    other steps q f e is = let none = none_of_others q step e in record {
      given = as_given (given_of q steps) (gives_of q step) (given_of q (steps ++ step ∷ []))
          (planned_in f) (sum_by_push (gives_of q) steps step) none.0 is.given;
      inward = is.inward;
      granted = as_given (granted_to q steps) (grants_to q step) (granted_to q (steps ++ step ∷ []))
          (planned_out f) (sum_by_push (grants_to q) steps step) none.1 is.granted;
      outward = is.outward;
    }

    by : (steps : List WireStep) → ArePlanned steps old
        → (q : ℕ) (b : Bool) → nat_eq (step_conn step) q ≡ b
        → IsPlannedAt q (steps ++ step ∷ []) (cond b (Some now) (far_at old q))
    by steps all q true e = subst (λ (n : ℕ). IsPlannedAt n (steps ++ step ∷ []) (Some now))
        (eqb-true (step_conn step) q e)
        (mine steps (subst (λ (f : Option Far). IsPlannedAt (step_conn step) steps f) was
        (all (step_conn step))))
    by steps all q false e = other steps q (far_at old q) e (all q)

pub planned_by : (conn : ℕ) (step : WireStep) (old new : BTreeMap ℕ Far) (far now : Far)
    → conn ≡ step_conn step → Some far ≡ far_at old conn
    → (IsSome (get_by (nat_cmp conn) old) → UpdatesBy nat_cmp (nat_cmp conn) old new (Some now))
    → Plans step (step_conn step) far now → PlansAt step old new
planned_by conn step old new far now its_own is updates plans =
    planned_on step old new far now (ap (far_at old) (sym its_own) ∙ sym is)
    (λ q. (updates (sym (ap is_some is))).0 q ∙ ap (λ b. cond b (Some now) (far_at old q))
    (by_order conn q ∙ ap (λ n. nat_eq n q) its_own)) plans

pub plans_behind : (step : WireStep) (old mid new : BTreeMap ℕ Far) → ((steps : List WireStep)
    → ArePlanned steps old → ArePlanned steps mid) → PlansAt step mid new → PlansAt step old new
plans_behind step old mid new stays then =
    record { plans = λ steps all. then.plans steps (stays steps all) }

pub none_there : (far : Option Far) → false ≡ is_some far → far ≡ None
none_there None e = refl
none_there (Some far) e = cc

zero_le : (n : ℕ) → 0 ≤ n
zero_le n = omega arith

-- a connection is there for which nothing is planned
pub added_planned : (old new : BTreeMap ℕ Far) (conn : ℕ) (far : Far) → far_at old conn ≡ None
    → far.inward ≡ 0 → far.outward ≡ 0 → IsFarAdded old conn far new → (steps : List WireStep)
    → ArePlanned steps old → ArePlanned steps new
added_planned old new conn far nobody none_in none_out added = λ steps all q.
    subst (λ (f : Option Far). IsPlannedAt q steps f) (sym (added q))
    (by steps all q (nat_eq conn q) refl)
  where
    mine : (steps : List WireStep) → IsPlannedAt conn steps None → IsPlannedAt conn steps (Some far)
    mine steps is = record {
      given = subst (λ n. given_of conn steps ≤ n) (sym none_in) is.given;
      inward =
          subst (λ n. n ≤ vec_capacity far.taken) (sym none_in) (zero_le (vec_capacity far.taken));
      granted = subst (λ n. granted_to conn steps ≤ n) (sym none_out) is.granted;
      outward = subst (λ n. n ≤ vec_capacity far.written) (sym none_out)
          (zero_le (vec_capacity far.written));
    }

    by : (steps : List WireStep) → ArePlanned steps old → (q : ℕ) (b : Bool) → nat_eq conn q ≡ b
        → IsPlannedAt q steps (cond b (Some far) (far_at old q))
    by steps all q true e = subst (λ (n : ℕ). IsPlannedAt n steps (Some far)) (eqb-true conn q e)
        (mine steps (subst (λ (f : Option Far). IsPlannedAt conn steps f) nobody (all conn)))
    by steps all q false e = all q

pub added_there : (old new : BTreeMap ℕ Far) (conn : ℕ) (far : Far) → IsFarAdded old conn far new
    → IsSome (far_at new conn)
added_there old new conn far added =
    subst (λ (f : Option Far). IsSome f) (sym
    (added conn ∙ ap (λ b. cond b (Some far) (far_at old conn)) (eq-eqb conn conn refl))) refl

pub none_planned : (fars : BTreeMap ℕ Far) → ((conn : ℕ) → far_at fars conn ≡ None)
    → ArePlanned [] fars
none_planned fars none = λ q. subst (λ (f : Option Far). IsPlannedAt q [] f) (sym (none q))
    (record { given = le_refl 0; inward = le_refl 0; granted = le_refl 0; outward = le_refl 0 })

first_by : (given planned room : ℕ) → given ≤ planned → planned ≤ room → 0 + 0 + given ≤ room
first_by given planned room fits there = omega (arith, fits, there)

-- before the first step is served
pub ample_first : (fars : BTreeMap ℕ Far) (bytes : List ℕ) (steps : List WireStep) → AllFresh fars
    → ArePlanned steps fars → IsAmple fars None bytes steps
ample_first fars bytes steps fresh planned = λ q. by q (far_at fars q) (fresh q) (planned q)
  where
    by : (q : ℕ) (f : Option Far) → IfSome (option_map told_by_far f) (λ t. t ≡ fresh_told)
        → IsPlannedAt q steps f → IsAmpleAt q f None bytes steps
    by q None is plan = (
      first_by (given_of q steps) 0 0 plan.given plan.inward,
      first_by (granted_to q steps) 0 0 plan.granted plan.outward,
    )
    by q (Some far) is plan = (
      subst (λ (t : WireTold). length t.taken + 0 + given_of q steps ≤ vec_capacity far.taken)
          (sym is)
          (first_by (given_of q steps) far.inward (vec_capacity far.taken) plan.given plan.inward),
      subst (λ (t : WireTold). length t.written + t.room + granted_to q steps
          ≤ vec_capacity far.written) (sym is) (first_by (granted_to q steps) far.outward
          (vec_capacity far.written) plan.granted plan.outward),
    )
