use Rattle.std.proofs.Common.{◌∙◌, ap, refl}
use Rattle.irc_net.specs.Calls.{NetView}
use Rattle.irc_net.proofs.Calling.{came_to, coming_wants}
use Rattle.irc_net.proofs.StaysOneRoom.{kept_by}
use Rattle.irc_net.proofs.net.Net.come.Goals as goal

pub come-requires : goal.come-requires
come-requires g c = record {
  tidy = (c.self.invariant (ap (λ (n : NetView). n.failed) c.self.view_is
      ∙ c.requires.stands)).whole.tidy;
}

pub returns-in_err-came : goal.returns-in_err-came
returns-in_err-came g c = coming_wants c.args.self.now _ c.args.ends c.args.count
    c.from_residual.result c.from_residual.ensures.1 refl

pub invariant_of-self-2 : goal.invariant_of-self-2
invariant_of-self-2 g c = λ _.
    kept_by c.networks_stay_sound.ensures c.self.inside.network c.come.new.self c.args.ends
    c.args.count c.new-output.result.lines.items
    c.come.new.output.lines.items (c.self.invariant (ap (λ (n : NetView). n.failed) c.self.view_is
    ∙ c.requires.stands)) c.new-output.ensures
    c.in_ok-came.ensures.come

pub returns : goal.returns
returns g c =
    came_to c.args.self.now c.self.inside.network c.come.new.self c.args.ends c.args.count
    c.in_ok-came.came.bytes c.come.new.output.lines.items
    c.new-output.result.lines.items (ap (λ (n : NetView). n.network) c.self.view_is)
    c.new-output.ensures c.in_ok-came.ensures.bytes c.in_ok-came.ensures.come
