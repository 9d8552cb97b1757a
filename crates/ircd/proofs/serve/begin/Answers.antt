use Rattle.irc_endings.specs.declared.fault.Stop.TheVariants.{Failed}
use Rattle.irc_engine.specs.EngineView.{engine_view}
use Rattle.ircd.proofs.Ready.{ready_cut, unbegun}
use Rattle.ircd.proofs.serve.begin.Goals as goal

pub returns-in_err-engine : goal.returns-in_err-engine
returns-in_err-engine g c = unbegun c.args.settings.now c.from_residual.result
    c.in_err-engine.field-0.0 _ _ _ _ (c.in_err-engine.ensures _) c.from_residual.ensures.1

pub returns-in_err-say_ready : goal.returns-in_err-say_ready
returns-in_err-say_ready g c =
    let opened = c.in_ok-engine.ensures in
    unbegun c.args.settings.now c.from_residual-in_err-say_ready.result Failed _ _ _ _
    (ready_cut c.args.settings.now (engine_view c.in_ok-engine.engine) _ _ _ _ opened.0 opened.1
    c.in_err-say_ready.ensures.front) c.from_residual-in_err-say_ready.ensures.1

pub returns : goal.returns
returns g c = (
  c.in_ok-engine.ensures.0,
  c.in_ok-say_ready.ensures.whole,
  c.in_ok-say_ready.ensures.front,
  c.in_ok-engine.ensures.1,
)
