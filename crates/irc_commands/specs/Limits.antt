-- The limits of commands.
use Rattle.std.specs.Prelude.{ℕ}

-- the most targets of one message that are served; our own choice
abbrev pub max_targets : ℕ
max_targets = 4
