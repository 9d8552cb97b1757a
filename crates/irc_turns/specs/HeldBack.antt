-- Who is held back, and why.
use Rattle.std.specs.Prelude.{ℕ, Bool, true, false, not, nat_eq, nat_lt, List, [], ◌∷◌, ◌++◌}
use Rattle.std.specs.Prelude.{filter}
use Rattle.irc_moments.specs.Moments.{later}
use Rattle.irc_turns.specs.declared.holding.Held.{Held}
use Rattle.irc_turns.specs.declared.holding.Reason.{Reason}
use Rattle.irc_turns.specs.declared.holding.Reason.TheVariants as reason

-- whether it waits for a client
abbrev pub is_for_client : Reason → Bool
is_for_client (reason.Filled mark) = true
is_for_client other = false

-- one behind the others who are held back
abbrev pub held_too : List Held → ℕ → Reason → ℕ → List Held
held_too holding who why now =
    holding ++ record { who = who; reason = why; since = now } ∷ []

-- one may wait for a client at a moment: for 250 milliseconds
abbrev pub may_wait_at : ℕ → Held → Bool
may_wait_at now held = nat_lt now (later held.since 250)

-- one is gone
abbrev pub held_without : ℕ → List Held → List Held
held_without who holding = filter (λ (held : Held). not (nat_eq held.who who)) holding
