use Rattle.std.proofs.Common.{arith, ◌∙◌, ap, sym, subst}
use Rattle.std.proofs.lemmas.Grind.{common_steps}
use Rattle.std.specs.FinMap.{get}
use Rattle.irc_stage.specs.EffectTold.{Served}
use Rattle.irc_stage.specs.Ways.{IsMetEnd}
use Rattle.irc_server.specs.Lemmas.ServedByMoves.{told_keeps_ends}
use Rattle.irc_server.proofs.telling.tell_all.Goals as goal

pub loop-deed-preserved : goal.loop-deed-preserved
loop-deed-preserved c = record {
  completes = grind (arith, common_steps);
  met = subst (λ ends. IsMetEnd (get ends c.args.link))
      (sym (ap (λ (s : Served). s.state.ends) c.in_ok-serving.ensures
      ∙ told_keeps_ends c.args.link _ c.loop-deed.serving c.loop-deed.invariant.met))
      c.loop-deed.invariant.met;
}
