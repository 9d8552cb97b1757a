use Rattle.std.proofs.Common.{Result, subst}
use Rattle.irc_engine.specs.EngineView.{engine_view}
use Rattle.irc_engine.specs.declared.engine.EngineFault.{EngineFault}
use Rattle.ircd.specs.Serving.{FrontTurn}
use Rattle.ircd.proofs.TurnsTaken.{turn_lost}
use Rattle.ircd.proofs.serve.take_turn.Goals as goal

pub returns-in-Ok : goal.returns-in-Ok
returns-in-Ok g c = record {
  turned = engine_view c.turn_telling.new.self;
  told = g.E.Write.contents c.turn_telling.new.errors;
  is_turned = subst (λ (r : Result (Unit {0}) EngineFault).
      FrontTurn (engine_view c.args.engine.now) (g.E.Write.contents c.args.errors.now)
      (engine_view c.turn_telling.new.self) (g.E.Write.contents c.turn_telling.new.errors) r)
      c.in-Ok.is c.turn_telling.ensures;
  look = c.look_in_time.ensures;
}

pub returns-in-Err : goal.returns-in-Err
returns-in-Err g c = turn_lost c.args.watch.now.settings.now (engine_view c.args.engine.now)
    (engine_view c.turn_telling.new.self) (engine_view c.turn_telling.new.self) _ _
    c.turn_telling.result c.turn_telling.ensures
