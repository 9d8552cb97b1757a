-- When to look whether something was asked for that nothing tells of.
use Rattle.std.specs.Prelude.{ℕ, Bool, not, nat_lt, if◌then◌else◌}
use Rattle.irc_moments.specs.Moments.{later}

-- as soon as the moment is there that was set for it
abbrev pub is_time : ℕ → ℕ → Bool
is_time now next = not (nat_lt now next)

-- and then again a second later
abbrev pub next_look : ℕ → ℕ → ℕ
next_look now next = if is_time now next then later now 1000 else next
