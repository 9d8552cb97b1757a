-- When those who are kept waiting are given a sign of life.
use Rattle.std.specs.Prelude.{ℕ, Bool, ◌-◌, nat_le, if◌then◌else◌}

-- 5 seconds behind the last ones
abbrev pub are_due : ℕ → ℕ → Bool
are_due now last = nat_le 5000 (now - last)

abbrev pub last_given : ℕ → ℕ → ℕ
last_given now last = if are_due now last then now else last
