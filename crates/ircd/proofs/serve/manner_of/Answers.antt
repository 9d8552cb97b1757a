use Rattle.std.proofs.Common.{option_map, string_bytes, refl, subst}
use Rattle.ircd.specs.Serving.{HasMotd}
use Rattle.ircd.proofs.MotdFound.{manner_unfound}
use Rattle.ircd.proofs.SettingUp.{lent_is}
use Rattle.ircd.proofs.serve.manner_of.Goals as goal

pub returns-in_err-optional_motd : goal.returns-in_err-optional_motd
returns-in_err-optional_motd g c =
    manner_unfound c.args.setup.now
    (option_map (λ file. string_bytes file.now) c.as_ref.result) c.from_residual.result
    c.in_err-optional_motd.field-0.0
    (lent_is c.as_ref.result c.args.setup.now.speech.motd c.as_ref.ensures.value)
    c.in_err-optional_motd.ensures c.from_residual.ensures.1

pub returns : goal.returns
returns g c = record {
  programs = refl;
  motd = subst
      (λ file. HasMotd file c.args.setup.now.listening.client_room c.in_ok-optional_motd.field-0)
      (lent_is c.as_ref.result c.args.setup.now.speech.motd c.as_ref.ensures.value)
      c.in_ok-optional_motd.ensures;
}
