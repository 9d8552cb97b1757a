-- How many milliseconds to wait for something to do.
use Rattle.std.specs.Prelude.{ℕ, Bool, true, false}

-- none, where there is something to do; 10 while somebody waits for a moment to come; and else 100
abbrev pub wait_for : Bool → Bool → ℕ
wait_for true is_awaited = 0
wait_for false true = 10
wait_for false false = 100
