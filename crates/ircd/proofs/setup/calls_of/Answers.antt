use Rattle.std.proofs.Common.{◌≡◌, Err, subst}
use Rattle.irc_endings.specs.declared.fault.Stop.TheVariants.{Failed}
use Rattle.ircd.specs.Serving.{plain_names, AreCalled, AreCallsOf}
use Rattle.ircd.specs.Loops.SettingUp.{FindsCallees}
use Rattle.ircd.proofs.SettingUp.{calls_refused, unset_part}
use Rattle.ircd.proofs.setup.calls_of.Goals as goal

pub returns-in_err-callees : goal.returns-in_err-callees
returns-in_err-callees c =
    unset_part (AreCallsOf c.args.settings.now) c.args.settings.now c.from_residual.result
    c.in_err-callees.field-0.0
    (calls_refused c.args.settings.now c.in_err-callees.field-0.0
    (subst (λ peers. FindsCallees peers (Err c.in_err-callees.field-0.0)) c.deref.ensures.value
    c.in_err-callees.ensures))
    c.from_residual.ensures.1

pub returns-in_err-plain_names : goal.returns-in_err-plain_names
returns-in_err-plain_names c =
    unset_part (AreCallsOf c.args.settings.now) c.args.settings.now
    c.from_residual-in_err-plain_names.result
    Failed tt
    c.from_residual-in_err-plain_names.ensures.1

pub returns : goal.returns
returns c = record {
  called = subst (λ peers. AreCalled peers c.in_ok-callees.field-0.items) c.deref.ensures.value
      c.in_ok-callees.ensures;
  plain = subst (λ peers. c.in_ok-plain_names.field-0.items ≡ plain_names peers)
      c.deref-2.ensures.value c.in_ok-plain_names.ensures;
  spread = c.own_spread.ensures;
}
