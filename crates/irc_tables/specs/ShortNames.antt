-- A table under names no longer than the longest of a channel (RFC 2812 section 1.3).
use Rattle.std.specs.Prelude.{◌≡◌, ℕ, ◌<◌, List, length, None}
use Rattle.irc_names.specs.Limits.{max_channel}
use Rattle.irc_names.specs.Tables.{Table, row}

-- no row stands under a longer fold
pub record HasShortNames {X : Type 0} (table : Table X) : Type 0 where
  pub at : (fold : List ℕ) → max_channel < length fold → row table fold ≡ None
