use Rattle.std.proofs.Common.{◌≡◌, ◌+◌, length}
use Rattle.irc_pipes.specs.Pipes.{first_direction, first_from}
use Rattle.irc_pipes.proofs.pipes.Pipes.first_direction.Given as goal

-- the first of those that are left is the first of all
abbrev pub invariant-loop-row : goal.invariant-loop-row
invariant-loop-row l =
    (first_from l.from l.rest ≡ first_direction l.self) × (l.from + length l.rest ≡ length l.self)

abbrev pub decreases-loop-row : goal.decreases-loop-row
decreases-loop-row l = length l.rest
