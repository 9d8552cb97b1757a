use Rattle.std.proofs.Common.{◌+◌, arith, subst, sym, take}
use Rattle.irc_net.specs.Calls.{PlaysSteps}
use Rattle.irc_net.proofs.Calling.{all_played, none_played, play_stops, play_wants, plays_on, stops}
use Rattle.irc_network.specs.Lemmas.FoundAtPlaces.{found_at}
use Rattle.irc_net.proofs.net.Net.play.Goals as goal

pub loop-step-init : goal.loop-step-init
loop-step-init g c =
    none_played c.args.self.now c.new-answers.result.items c.new-answers.ensures.items

pub returns-in_err-answer : goal.returns-in_err-answer
returns-in_err-answer g c =
    play_stops c.args.self.now c.do_step.new.self c.args.steps.now c.in_err-answer.field-0.0
    c.from_residual.result c.from_residual.ensures.1
    (stops c.args.steps.now c.loop-step.answers.items c.loop-step.step-index c.step-item.result
    c.in_err-answer.field-0.0 c.loop-step.invariant
    (found_at c.args.steps.now c.loop-step.step-index c.step-item.result c.loop-step-test.true
    c.step-item.is) c.in_err-answer.ensures)

pub returns-in_err-keep_answer : goal.returns-in_err-keep_answer
returns-in_err-keep_answer g c =
    play_wants c.args.self.now c.keep_answer.new.self c.args.steps.now
    c.in_err-keep_answer.field-0.0 c.from_residual-in_err-keep_answer.result
    c.from_residual-in_err-keep_answer.ensures.1
    c.in_err-keep_answer.ensures.0 c.in_err-keep_answer.ensures.1

pub loop-step-preserved : goal.loop-step-preserved
loop-step-preserved g c =
    subst (λ net. PlaysSteps c.args.self.now
    (take (c.loop-step.step-index + 1) c.args.steps.now) c.keep_answer.new.answers.items net)
    (sym c.in_ok-keep_answer.ensures.1)
    (plays_on c.args.steps.now c.loop-step.answers.items c.keep_answer.new.answers.items
    c.loop-step.step-index c.step-item.result c.in_ok-answer.answer c.loop-step.invariant
    c.in_ok-answer.ensures (found_at c.args.steps.now c.loop-step.step-index c.step-item.result
    c.loop-step-test.true c.step-item.is) c.in_ok-keep_answer.ensures.0)

pub returns : goal.returns
returns g c = all_played c.args.steps.now c.loop-step.answers.items c.loop-step.step-index
    (omega (arith, c.loop-step-test.false)) c.loop-step.invariant
