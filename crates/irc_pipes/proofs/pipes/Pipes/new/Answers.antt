use Rattle.std.proofs.Common.{subst, sym}
use Rattle.irc_pipes.specs.Pipes.{AreLean}
use Rattle.irc_pipes.proofs.LeanRows.{none_kept}
use Rattle.irc_pipes.proofs.pipes.Pipes.new.Goals as goal

pub invariant_of-result : goal.invariant_of-result
invariant_of-result c = subst AreLean (sym c.loop.invariant) (none_kept c.loop.counter)
