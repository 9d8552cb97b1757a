use Rattle.std.proofs.Common.{◌∙◌, ap, sym, inl, inr, refl}
use Rattle.irc_net.specs.Calls.{NetView}
use Rattle.irc_net.specs.Faults.{deliver_fault}
use Rattle.irc_net.proofs.Calling.{are_placed}
use Rattle.irc_network.specs.Network.{link_places}
use Rattle.irc_net.proofs.net.Net.ends_linked.Goals as goal

pub returns-then-self : goal.returns-then-self
returns-then-self g c =
    inl (ap (λ (n : NetView). n.failed) (sym c.self.view_is) ∙ c.if-self.true, refl)

pub returns-in-Some : goal.returns-in-Some
returns-in-Some g c =
    inr (
      ap (λ (n : NetView). n.failed) (sym c.self.view_is) ∙ c.if-self.false,
      ap (λ (n : NetView). deliver_fault n.network c.args.from.now c.args.to.now)
          (sym c.self.view_is) ∙ sym c.in-Some.ensures,
    )

pub returns-in-Some-ends_of : goal.returns-in-Some-ends_of
returns-in-Some-ends_of g c = record {
  stands = ap (λ (n : NetView). n.failed) (sym c.self.view_is) ∙ c.if-self.false;
  none = ap (λ (n : NetView). deliver_fault n.network c.args.from.now c.args.to.now)
      (sym c.self.view_is) ∙ sym c.in_default.ensures;
  ends_are = ap (λ (n : NetView). link_places n.network.network c.args.from.now c.args.to.now)
      (sym c.self.view_is)
      ∙ sym c.in-Some-ends_of.ensures.ends;
}

pub returns-in-None : goal.returns-in-None
returns-in-None g c = absurd
    (are_placed c.self.inside.network c.args.from.now c.args.to.now (sym c.in_default.ensures)
    (sym c.in-None.ensures.ends))
