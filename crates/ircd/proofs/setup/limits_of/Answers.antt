use Rattle.std.proofs.Common.{Err, map, refl, string_bytes, subst}
use Rattle.irc_entrance.specs.Ranges.{AreRanges}
use Rattle.ircd.specs.Serving.{AreLimitsOf}
use Rattle.ircd.specs.Loops.SettingUp.{FindsRanges}
use Rattle.ircd.proofs.SettingUp.{deny_refused, proxies_refused, unset_part}
use Rattle.ircd.proofs.setup.limits_of.Goals as goal

pub returns-in_err-ranges : goal.returns-in_err-ranges
returns-in_err-ranges c =
    unset_part (AreLimitsOf c.args.settings.now) c.args.settings.now c.from_residual.result
    c.in_err-ranges.field-0.0
    (deny_refused c.args.settings.now c.in_err-ranges.field-0.0
    (subst (λ texts. FindsRanges (map string_bytes texts) (Err c.in_err-ranges.field-0.0))
    c.deref.ensures.value c.in_err-ranges.ensures))
    c.from_residual.ensures.1

pub returns-in_err-ranges-2 : goal.returns-in_err-ranges-2
returns-in_err-ranges-2 c =
    unset_part
    (AreLimitsOf c.args.settings.now) c.args.settings.now c.from_residual-in_err-ranges-2.result
    c.in_err-ranges-2.field-0.0
    (proxies_refused c.args.settings.now c.in_err-ranges-2.field-0.0
    (subst (λ texts. FindsRanges (map string_bytes texts) (Err c.in_err-ranges-2.field-0.0))
    c.deref-2.ensures.value c.in_err-ranges-2.ensures))
    c.from_residual-in_err-ranges-2.ensures.1

pub returns : goal.returns
returns c = record {
  connections_per_address = refl;
  links_per_address = refl;
  pace = c.pace.ensures;
  deny = subst (λ texts. AreRanges (map string_bytes texts) c.in_ok-ranges.field-0.items)
      c.deref.ensures.value c.in_ok-ranges.ensures;
  proxies = subst (λ texts. AreRanges (map string_bytes texts) c.in_ok-ranges-2.field-0.items)
      c.deref-2.ensures.value c.in_ok-ranges-2.ensures;
}
