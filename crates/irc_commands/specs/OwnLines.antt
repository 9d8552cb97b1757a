-- Which lines are a client's own.
use Rattle.std.specs.Prelude.{ℕ, Bool, true, false, Option, Some, None, List}
use Rattle.irc_names.specs.Fold.{same}

-- A prefix must be the client's own nickname (our own choice: a line with another is ignored).
abbrev pub is_from : Option (List ℕ) → Option (List ℕ) → Bool
is_from None name = true
is_from (Some prefix) None = false
is_from (Some prefix) (Some name) = same prefix name
