use Rattle.std.proofs.Common.{◌∙◌, Ok, ap, sym, subst, refl}
use Rattle.irc_network.specs.Loops.Coming.{progress_of}
use Rattle.irc_net.specs.Calls.{IsSettled, NetView, settles_it, settling_by_failed, standing}
use Rattle.irc_net.specs.Loops.Settling.{SettlesAt}
use Rattle.irc_network.specs.Views.{receipts_of}
use Rattle.irc_net.proofs.Calling.{settles_by, settling_wants}
use Rattle.irc_net.proofs.net.Net.settle.Goals as goal

pub returns-then-self-clause-settled : goal.returns-then-self-clause-settled
returns-then-self-clause-settled g c =
    settling_by_failed (ap (λ (n : NetView). n.failed) (sym c.self.view_is) ∙ c.if-self.true)

pub returns-in_err-count-clause-settled : goal.returns-in_err-count-clause-settled
returns-in_err-count-clause-settled g c =
    settling_wants c.args.self.now _ c.from_residual.result c.from_residual.ensures.1
    (ap (λ (n : NetView). n.failed) (sym c.self.view_is) ∙ c.if-self.false) refl

pub invariant_of-self-2 : goal.invariant_of-self-2
invariant_of-self-2 g c =
    let net = c.self.inside.network in
    let lines = c.take_all.new.output.lines.items in
    λ _. c.networks_stay_sound.ensures.settled net c.take_all.new.network c.in_ok-count.count
    (receipts_of lines) (c.self.invariant c.if-self.false)
    (settles_by net c.take_all.new.network lines c.in_ok-count.count
    (subst (λ ls. SettlesAt c.in_ok-count.count (progress_of net ls)
    (progress_of c.take_all.new.network lines)) c.new-output.ensures c.in_ok-count.ensures))

pub returns-clause-rest : goal.returns-clause-rest
returns-clause-rest g c = c.in_ok-count.ensures.rest

pub returns-clause-settled : goal.returns-clause-settled
returns-clause-settled g c =
    let net = c.self.inside.network in
    let lines = c.take_all.new.output.lines.items in
    subst (λ (old : NetView). IsSettled old (Ok (c.in_ok-count.count, receipts_of lines))
    (standing c.take_all.new.network)) c.self.view_is
    (settles_it c.if-self.false
    (settles_by net c.take_all.new.network lines c.in_ok-count.count
    (subst (λ ls. SettlesAt c.in_ok-count.count (progress_of net ls)
    (progress_of c.take_all.new.network lines)) c.new-output.ensures c.in_ok-count.ensures)))
