use Rattle.std.proofs.Common.{arith, subst}
use Rattle.irc_engine.specs.EngineView.{engine_view}
use Rattle.ircd.specs.Serving.{no_turn, FrontTurns}
use Rattle.ircd.specs.Loops.Turns.{TakesTurn}
use Rattle.ircd.proofs.TurnsTaken.{turn_added, turns_lost}
use Rattle.ircd.proofs.serve.take_turns.Goals as goal

pub loop-turn-init : goal.loop-turn-init
loop-turn-init g c = no_turn

pub loop-turn-preserved : goal.loop-turn-preserved
loop-turn-preserved g c =
    turn_added _ _ _ _ _ _ _ _ c.loop-turn.invariant
    (subst (λ r. TakesTurn c.args.watch.now.settings.now (engine_view c.loop-turn.engine)
    (engine_view c.take_turn.new.engine) (g.E.Write.contents c.loop-turn.errors)
    (g.E.Write.contents c.take_turn.new.errors) r) c.in_ok-take_turn.was c.take_turn.ensures)

pub returns-in_err-take_turn : goal.returns-in_err-take_turn
returns-in_err-take_turn g c =
    turns_lost _ _ _ _ _ _ _ _ c.args.turns c.from_residual.result
    c.in_err-take_turn.field-0.0 c.loop-turn.invariant c.in_err-take_turn.ensures
    c.from_residual.ensures.1

pub returns : goal.returns
returns g c =
    subst (λ n. FrontTurns c.args.watch.now.settings.now (engine_view c.args.engine.now)
    (g.E.Write.contents c.args.errors.now) n (engine_view c.loop-turn.engine)
    (g.E.Write.contents c.loop-turn.errors))
    (omega (arith, c.loop-turn-test.false, c.loop-turn.auto._turn-end)) c.loop-turn.invariant
