use Rattle.irc_engine.specs.EngineView.{engine_view}
use Rattle.irc_engine.specs.Telling.{ToldTurnsBy}
use Rattle.irc_engine.proofs.engine.Engine.run_telling.Given as goal

-- so many turns were taken so far, with what was said behind each
abbrev pub invariant-loop-turn : goal.invariant-loop-turn
invariant-loop-turn g l =
    ToldTurnsBy g.W.Wire.is_after g.M.Machine.server_of g.M.Machine.handles g.M.Machine.dues
    (engine_view l.fn.self)
    (g.E.Write.contents l.fn.errors) l._turn
    (engine_view l.self) (g.E.Write.contents l.errors)
