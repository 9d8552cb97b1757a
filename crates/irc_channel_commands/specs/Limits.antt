-- The limits of membership.
use Rattle.std.specs.Prelude.{ℕ}

-- the most channels that a user is in by its own joining; our own choice
abbrev pub max_joined : ℕ
max_joined = 10
