use Rattle.std.proofs.Common.{◌≡◌, ℕ, ◌≤◌, ◌||◌, false, get_or, drop}
use Rattle.irc_routes.specs.Limits.{max_servers}
use Rattle.irc_routes.specs.Known.{is_used_in}
use Rattle.irc_routes.proofs.numbers.used_by.Given as goal

abbrev pub invariant-loop-row : goal.invariant-loop-row
invariant-loop-row l = (n : ℕ) → n ≤ max_servers
    → (get_or l.used n false || is_used_in (drop l.row-index l.rows) n) ≡ is_used_in l.rows n
