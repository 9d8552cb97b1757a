use Rattle.irc_network.specs.ByteNetwork.{ByteNetwork}
use Rattle.std.proofs.Common.{◌∙◌, Ok, ap, sym, subst, refl}
use Rattle.irc_net.specs.declared.answer.Answer.{Answer}
use Rattle.irc_net.specs.Calls.{IsGiven, NetView, given_it, given_refused, given_to_failed}
use Rattle.irc_net.specs.Calls.{standing}
use Rattle.irc_net.specs.Faults.{item_fault}
use Rattle.irc_network.specs.Network.{Progress}
use Rattle.irc_network.specs.Views.{item_of}
use Rattle.irc_net.proofs.Calling.{given_wants}
use Rattle.irc_net.proofs.StaysOneRoom.{kept_item, refuses}
use Rattle.irc_net.proofs.net.Net.item.Goals as goal

pub returns-then-self-clause-refused : goal.returns-then-self-clause-refused
returns-then-self-clause-refused g c =
    refuses c.refusals_are_the_worlds.ensures c.rest_as_lines.ensures.lines
    (record { failed = c.self.inside.failed; network = c.self.inside.network }) c.args.self.now
    (item_of c.args.item)
    c.self.invariant c.self.view_is

pub returns-then-self-clause-given : goal.returns-then-self-clause-given
returns-then-self-clause-given g c =
    given_to_failed (ap (λ (n : NetView). n.failed) (sym c.self.view_is) ∙ c.if-self.true)

pub returns-in-Some-clause-refused : goal.returns-in-Some-clause-refused
returns-in-Some-clause-refused g c =
    refuses c.refusals_are_the_worlds.ensures c.rest_as_lines.ensures.lines
    (record { failed = c.self.inside.failed; network = c.self.inside.network }) c.args.self.now
    (item_of c.args.item)
    c.self.invariant c.self.view_is

pub returns-in-Some-clause-given : goal.returns-in-Some-clause-given
returns-in-Some-clause-given g c =
    given_refused (ap (λ (n : NetView). n.failed) (sym c.self.view_is) ∙ c.if-self.false)
    (ap (λ (n : NetView). item_fault n.network (item_of c.args.item)) (sym c.self.view_is)
    ∙ sym c.in-Some.ensures)

pub returns-in_err-give-clause-refused : goal.returns-in_err-give-clause-refused
returns-in_err-give-clause-refused g c =
    refuses c.refusals_are_the_worlds.ensures c.rest_as_lines.ensures.lines
    (record { failed = c.self.inside.failed; network = c.self.inside.network }) c.args.self.now
    (item_of c.args.item)
    c.self.invariant c.self.view_is

pub returns-in_err-give-clause-given : goal.returns-in_err-give-clause-given
returns-in_err-give-clause-given g c =
    given_wants c.args.self.now _
    (item_of c.args.item) c.from_residual.result c.from_residual.ensures.1
    (ap (λ (n : NetView). n.failed) (sym c.self.view_is) ∙ c.if-self.false)
    (ap (λ (n : NetView). item_fault n.network (item_of c.args.item)) (sym c.self.view_is)
    ∙ sym c.in_default.ensures) refl

pub give-requires-clause-tidy : goal.give-requires-clause-tidy
give-requires-clause-tidy g c = (c.self.invariant c.if-self.false).whole.tidy

pub invariant_of-self-2 : goal.invariant_of-self-2
invariant_of-self-2 g c = λ _.
    kept_item c.networks_stay_sound.ensures c.self.inside.network c.give.new.self
    (item_of c.args.item) c.give.new.output.lines.items
    (c.self.invariant c.if-self.false)
    (sym c.in_default.ensures) c.keeps_limits.ensures c.in_ok-give.ensures

pub returns-clause-refused : goal.returns-clause-refused
returns-clause-refused g c =
    refuses c.refusals_are_the_worlds.ensures c.rest_as_lines.ensures.lines
    (record { failed = c.self.inside.failed; network = c.self.inside.network }) c.args.self.now
    (item_of c.args.item)
    c.self.invariant c.self.view_is

pub returns-clause-given : goal.returns-clause-given
returns-clause-given g c =
    let item = item_of c.args.item in
    let new = standing c.give.new.self in
    let answer : Answer =
    record { client = c.number_given-client.result; lines = c.give.new.output.lines } in
    subst (λ (old : NetView). IsGiven old item (Ok answer) new) c.self.view_is
    (given_it c.if-self.false (record {
      none = sym c.in_default.ensures;
      after = ap (λ (last : Progress ByteNetwork). standing last.state) c.in_ok-give.ensures;
      client = c.number_given-client.ensures;
      receipts = ap (λ (last : Progress ByteNetwork). last.out) c.in_ok-give.ensures;
    }))
