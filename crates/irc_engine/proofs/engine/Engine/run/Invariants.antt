use Rattle.irc_engine.specs.Loops.Turns.{HasTaken}
use Rattle.irc_engine.proofs.engine.Engine.run.Given as goal

abbrev pub invariant-loop-turn : goal.invariant-loop-turn
invariant-loop-turn g l = HasTaken g.W.Wire.is_after g.M.Machine.server_of g.M.Machine.handles
    g.M.Machine.dues l.fn.self l._turn l.self
