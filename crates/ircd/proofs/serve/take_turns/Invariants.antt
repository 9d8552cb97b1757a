use Rattle.irc_engine.specs.EngineView.{engine_view}
use Rattle.ircd.specs.Serving.{FrontTurns}
use Rattle.ircd.proofs.serve.take_turns.Given as goal

-- so many turns were taken
abbrev pub invariant-loop-turn : goal.invariant-loop-turn
invariant-loop-turn g l =
    FrontTurns l.fn.watch.settings.now (engine_view l.fn.engine) (g.E.Write.contents l.fn.errors)
    l._turn (engine_view l.engine) (g.E.Write.contents l.errors)
