use Rattle.std.proofs.Common.{ap, subst, sym, ◌∙◌}
use Rattle.irc_stage.specs.EffectTold.{Served, client_ended, quit_by}
use Rattle.irc_stage.specs.Matched.{IsMatched}
use Rattle.irc_stage.specs.View.{machine_of}
use Rattle.irc_stage.specs.Lemmas.Counting.{taken_out_stays, Holds}
use Rattle.irc_stage.proofs.ServesStill.{holds_at}
use Rattle.irc_stage.proofs.serving.Serving.remove_user.Goals as goal

pub settle-requires : goal.settle-requires
settle-requires c = record {
  matched = subst (λ (s : Served). IsMatched (machine_of s.state))
      (sym (c.in_ok-end_client.ensures
      ∙ ap (client_ended c.args.nick.now c.args.text.now)
      (c.in_ok-left.ensures
      ∙ ap (quit_by c.args.nick.now c.args.text.now) c.handling.ensures)))
      (taken_out_stays c.args.nick.now c.args.text.now c.args.self
      (subst Holds c.self.view_is
      (holds_at c.self.inside.parts.value c.self.inside.out.outs c.self.invariant))).matched;
}
