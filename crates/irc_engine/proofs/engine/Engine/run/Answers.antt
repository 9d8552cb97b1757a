use Rattle.std.proofs.Common.{refl, sym, ◌∙◌, subst, arith}
use Rattle.irc_engine.specs.Turning.{HasFailed, TurnedBy, TurnsBy, no_turn, one_more, all_taken}
use Rattle.irc_engine.specs.EngineView.{engine_view}
use Rattle.irc_engine.proofs.TurnLaws.{stops_by}
use Rattle.irc_engine.proofs.engine.Engine.run.Goals as goal

pub loop-turn-init : goal.loop-turn-init
loop-turn-init g c = record { taken = no_turn; failed_before = λ failed. refl }

pub loop-turn-preserved : goal.loop-turn-preserved
loop-turn-preserved g c = record {
  taken = one_more _ _ _ c.loop-turn.invariant.taken
      (subst (λ r. TurnedBy g.W.Wire.is_after g.M.Machine.server_of g.M.Machine.handles
      g.M.Machine.dues (engine_view c.loop-turn.self)
      (engine_view c.turn.new.self) r) c.in_ok-turn.was c.turn.ensures.turned);
  failed_before = λ failed.
      let same = c.loop-turn.invariant.failed_before failed in
      c.turn.ensures.failed_before (subst (λ e. HasFailed (engine_view e)) (sym same) failed)
      ∙ same;
}

pub returns-in_err-turn-clause-ran : goal.returns-in_err-turn-clause-ran
returns-in_err-turn-clause-ran g c =
    stops_by _ _ _ _ _ _ c.from_residual.result c.in_err-turn.field-0.0 c.loop-turn-test.true
    c.loop-turn.invariant.taken
    c.in_err-turn.ensures.turned c.from_residual.ensures.1

pub returns-in_err-turn-clause-failed_before : goal.returns-in_err-turn-clause-failed_before
returns-in_err-turn-clause-failed_before g c = λ failed.
    let same = c.loop-turn.invariant.failed_before failed in
    c.turn.ensures.failed_before (subst (λ e. HasFailed (engine_view e)) (sym same) failed) ∙ same

pub returns-clause-ran : goal.returns-clause-ran
returns-clause-ran g c = all_taken (subst (λ n. TurnsBy g.W.Wire.is_after g.M.Machine.server_of
    g.M.Machine.handles g.M.Machine.dues (engine_view c.args.self.now) n (engine_view
    c.loop-turn.self)) (omega
    (arith, c.loop-turn-test.false, c.loop-turn.auto._turn-end)) c.loop-turn.invariant.taken)

pub returns-clause-failed_before : goal.returns-clause-failed_before
returns-clause-failed_before g c = c.loop-turn.invariant.failed_before
