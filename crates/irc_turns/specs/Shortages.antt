-- Whether connections can be taken, and what was told of it: that they cannot at once, and that
-- they can a second behind the last that could not.
use Rattle.std.specs.Prelude.{ℕ, ◌-◌, Bool, true, false, not, ◌&&◌, nat_le, if◌then◌else◌, Option}
use Rattle.std.specs.Prelude.{Some, None}
use Rattle.irc_turns.specs.declared.shortage.Shortage.{Shortage}

abbrev pub no_shortage : Shortage
no_shortage = record { is_there = false; last = 0; is_told = false }

-- one could not be taken at a moment
abbrev pub shortage_at : ℕ → Shortage → Shortage
shortage_at now shortage = record shortage { is_there = true; last = now }

abbrev pub none_wanting : Shortage → Shortage
none_wanting shortage = record shortage { is_there = false }

-- nothing is wanting, and was not for a second
abbrev pub is_over : ℕ → Shortage → Bool
is_over now shortage = not shortage.is_there && nat_le 1000 (now - shortage.last)

-- what is to be told at a moment, where it is something else than was told last
abbrev pub change_at : ℕ → Shortage → Option Bool
change_at now shortage =
    if shortage.is_told && is_over now shortage then Some false
    else if not shortage.is_told && shortage.is_there then Some true
    else None

abbrev pub told_then : Bool → Option Bool → Bool
told_then before None = before
told_then before (Some is_there) = is_there

abbrev pub change_told : ℕ → Shortage → Shortage
change_told now shortage =
    record shortage { is_told = told_then shortage.is_told (change_at now shortage) }
