use Rattle.std.proofs.Common.{◌≡◌, true, take}
use Rattle.std.specs.List.{list_all}
use Rattle.irc_pipes.specs.Pipes.{are_still_in}
use Rattle.irc_pipes.proofs.pipes.Pipes.are_still.Given as goal

-- those so far are still
abbrev pub invariant-loop-row : goal.invariant-loop-row
invariant-loop-row l = list_all are_still_in (take l.row-index l.row-items) ≡ true
