-- The parameters of changes of modes.
use Rattle.std.specs.Prelude.{ℕ, ◌≤◌, ⊤, Option, Some, None, List, length}
use Rattle.irc_modes.specs.Limits.{max_mode_word}

abbrev pub IsModeWord : List ℕ → Type 0
IsModeWord bytes = length bytes ≤ max_mode_word

-- the parameter of a change, where it has one, as a change keeps it
abbrev pub IsKept : Option (List ℕ) → Type 0
IsKept None = ⊤
IsKept (Some word) = IsModeWord word
