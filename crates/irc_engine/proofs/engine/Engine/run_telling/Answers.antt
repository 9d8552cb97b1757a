use Rattle.std.proofs.Common.{subst, arith}
use Rattle.irc_engine.specs.EngineView.{engine_view}
use Rattle.irc_engine.specs.Telling.{TellsTurnedBy, ToldTurnsBy, no_told, told_more, all_told}
use Rattle.irc_engine.proofs.TellingLaws.{told_stops}
use Rattle.irc_engine.proofs.engine.Engine.run_telling.Goals as goal

pub loop-turn-init : goal.loop-turn-init
loop-turn-init g c = no_told

pub loop-turn-preserved : goal.loop-turn-preserved
loop-turn-preserved g c =
    told_more _ _ _ _ _ c.loop-turn.invariant
    (subst (λ r. TellsTurnedBy g.W.Wire.is_after g.M.Machine.server_of g.M.Machine.handles
    g.M.Machine.dues (engine_view c.loop-turn.self)
    (engine_view c.turn_telling.new.self)
    (g.E.Write.contents c.loop-turn.errors) (g.E.Write.contents c.turn_telling.new.errors) r)
    c.in_ok-turn_telling.was c.turn_telling.ensures)

pub returns-in_err-turn_telling : goal.returns-in_err-turn_telling
returns-in_err-turn_telling g c =
    told_stops _ _ _ _ _ _ _ _ _ c.from_residual.result c.in_err-turn_telling.field-0.0
    c.loop-turn-test.true c.loop-turn.invariant
    c.in_err-turn_telling.ensures c.from_residual.ensures.1

pub returns : goal.returns
returns g c =
    all_told (subst (λ n. ToldTurnsBy g.W.Wire.is_after g.M.Machine.server_of g.M.Machine.handles
    g.M.Machine.dues (engine_view c.args.self.now)
    (g.E.Write.contents c.args.errors.now) n (engine_view c.loop-turn.self)
    (g.E.Write.contents c.loop-turn.errors)) (omega
    (arith, c.loop-turn-test.false, c.loop-turn.auto._turn-end)) c.loop-turn.invariant)
