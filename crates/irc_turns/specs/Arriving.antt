-- Who waits at a door.
use Rattle.std.specs.Prelude.{ℕ, Bool, true, false, not, ◌&&◌, ◌||◌, ◌-◌, nat_lt, Option, Some}
use Rattle.std.specs.Prelude.{None, is_some, if◌then◌else◌}
use Rattle.irc_moments.specs.Moments.{later}
use Rattle.irc_turns.specs.declared.arrivals.Arrivals.{Arrivals}

abbrev pub nobody_waits : Arrivals
nobody_waits = record { may_have = false; left = 0; until = None }

-- some may wait, and fewer were taken in this round than may be
abbrev pub may_be_taken : Arrivals → Bool
may_be_taken arrivals = arrivals.may_have && nat_lt 0 arrivals.left

abbrev pub round_of_arrivals : Arrivals → Arrivals
round_of_arrivals arrivals = record arrivals { left = 16 }

abbrev pub knocked : Arrivals → Arrivals
knocked arrivals = record arrivals { may_have = true }

-- whoever could not be taken is asked for again
abbrev pub woken : Arrivals → Arrivals
woken arrivals = record arrivals {
  may_have = arrivals.may_have || is_some arrivals.until;
  until = None;
}

-- that one is asked for again whom nobody could take, and whose time has come
abbrev pub is_rested : Option ℕ → ℕ → Bool
is_rested None now = false
is_rested (Some until) now = not (nat_lt now until)

abbrev pub woken_at : ℕ → Arrivals → Arrivals
woken_at now arrivals = if is_rested arrivals.until now then woken arrivals else arrivals

abbrev pub one_taken : Arrivals → Arrivals
one_taken arrivals = record arrivals { left = arrivals.left - 1 }

abbrev pub none_waits : Arrivals → Arrivals
none_waits arrivals = record arrivals { may_have = false }

-- nobody is asked for within 100 milliseconds, before somebody knocks, or what was in the way may
-- be gone
abbrev pub none_can_be_taken : ℕ → Arrivals → Arrivals
none_can_be_taken now arrivals =
    record arrivals { may_have = false; until = Some (later now 100) }
