use Rattle.std.proofs.Common.{arith}
use Rattle.irc_script.specs.Limits.{max_reads}
use Rattle.irc_script.proofs.sim.reads_to_end.Goals as goal

pub returns : goal.returns
unfolding max_reads
returns g c = omega (arith, c.loop-test.false, c.loop.invariant.some)
