use Rattle.std.proofs.Common.{Ok, Err, refl, subst}
use Rattle.std.specs.Net.Grammar.{IsSocketText}
use Rattle.ircd.specs.Serving.{IsListeningOf}
use Rattle.ircd.specs.Loops.SettingUp.{FindsAddress}
use Rattle.ircd.proofs.SettingUp.{found_in, links_refused, listen_refused, unset_part}
use Rattle.ircd.proofs.setup.listening_of.Goals as goal

pub returns-in_err-address : goal.returns-in_err-address
returns-in_err-address c =
    unset_part (IsListeningOf c.args.settings.now) c.args.settings.now c.from_residual.result
    c.in_err-address.field-0.0
    (listen_refused c.args.settings.now c.in_err-address.field-0.0
    (subst (λ text. FindsAddress text (Err c.in_err-address.field-0.0)) c.as_str.ensures.value
    c.in_err-address.ensures))
    c.from_residual.ensures.1

pub returns-in_err-optional_address : goal.returns-in_err-optional_address
returns-in_err-optional_address c =
    unset_part (IsListeningOf c.args.settings.now) c.args.settings.now
    c.from_residual-in_err-optional_address.result
    c.in_err-optional_address.field-0.0
    (links_refused c.args.settings.now c.in_err-optional_address.field-0.0
    (found_in c.as_ref.result c.args.settings.now.listen_links
    (Err c.in_err-optional_address.field-0.0)
    c.as_ref.ensures.value c.in_err-optional_address.ensures))
    c.from_residual-in_err-optional_address.ensures.1

pub returns-in_err-limits_of : goal.returns-in_err-limits_of
returns-in_err-limits_of c =
    unset_part
    (IsListeningOf c.args.settings.now) c.args.settings.now c.from_residual-in_err-limits_of.result
    c.in_err-limits_of.field-0.0 c.in_err-limits_of.ensures
    c.from_residual-in_err-limits_of.ensures.1

pub returns : goal.returns
returns c = record {
  clients = subst (λ text. IsSocketText text c.in_ok-address.field-0) c.as_str.ensures.value
      c.in_ok-address.ensures;
  links = found_in c.as_ref.result c.args.settings.now.listen_links
      (Ok c.in_ok-optional_address.field-0) c.as_ref.ensures.value
      c.in_ok-optional_address.ensures;
  client_room = refl;
  link_room = refl;
  name_within = refl;
  register_within = refl;
  limits = c.in_ok-limits_of.ensures;
}
