use Rattle.irc_engine.specs.EngineView.{engine_view}
use Rattle.ircd.proofs.Ready.{turns_served, unserved}
use Rattle.ircd.proofs.serve.serve_watched.Goals as goal

pub returns-in_err-engine : goal.returns-in_err-engine
returns-in_err-engine g c = λ text read. unserved text c.args.turns c.from_residual.result
    c.in_err-engine.field-0.0 _ _ _ _ (c.in_err-engine.ensures text read)
    c.from_residual.ensures.1

pub returns : goal.returns
returns g c =
    let began = c.in_ok-engine.ensures in
    turns_served c.args.watch.now.settings.now c.args.turns (engine_view c.in_ok-engine.engine) _
    _ _ _ _ _ c.take_turns.result began.0 began.1 began.2 began.3 c.take_turns.ensures
