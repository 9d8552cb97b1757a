use Rattle.std.proofs.Common.{◌≡◌}
use Rattle.std.specs.List.{find}
use Rattle.irc_pipes.specs.Pipes.{first_in, has_byte, pipe_in}
use Rattle.irc_pipes.proofs.row.PipeRow.first.Given as goal

-- the first of those that are left is the first of all
abbrev pub invariant-loop-to : goal.invariant-loop-to
invariant-loop-to l =
    (find (λ to. has_byte (pipe_in to l.self)) l.to-iterator ≡ first_in l.self) ×
    (goal.iterator-loop-to).can_next l.to-iterator ×
    (goal.iterator-loop-to).is_finite l.to-iterator
