use Rattle.irc_script.specs.Loops.Reading.{HasGiven}
use Rattle.irc_script.proofs.sim.reads_to_end.Given as goal

-- what the reads so far have given
abbrev pub invariant-loop : goal.invariant-loop
invariant-loop g l =
    HasGiven l.counter l.text.items (g.R.Read.remaining l.fn.input) (g.R.Read.remaining l.input)
