-- Moments, in milliseconds of a clock that never goes back.
use Rattle.std.specs.Prelude.{ℕ, ℤ, pos, ◌+◌, ◌*◌, ◌/◌, min, max, Option, Some, None}
use Rattle.irc_moments.specs.declared.moment.ClockTime.{ClockTime}

-- so many milliseconds later, of which no more is told than that they are as many as a number can
-- be
abbrev pub later : ℕ → ℕ → ℕ
later moment milliseconds = min (moment + milliseconds) 18446744073709551615

-- what a clock has counted, in whole milliseconds, 1,000 of a second and one of 1,000,000
-- nanoseconds; nothing, where it tells less than nothing
abbrev pub milliseconds_of : ℤ → ℤ → ℕ
milliseconds_of (pos seconds) (pos nanoseconds) =
    later (min (seconds * 1000) 18446744073709551615) (nanoseconds / 1000000)
milliseconds_of seconds nanoseconds = 0

-- the moment behind another: the one that a clock tells, or the same again, where it cannot be read
-- or tells an earlier one
abbrev pub moment_behind : ℕ → Option ClockTime → ℕ
moment_behind moment None = moment
moment_behind moment (Some time) = max moment (milliseconds_of time.seconds time.nanoseconds)
