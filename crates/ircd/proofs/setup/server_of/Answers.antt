use Rattle.std.proofs.Common.{Some, ap, ◌∙◌}
use Rattle.irc_server.specs.Configuring.{served_view}
use Rattle.irc_endings.specs.Statuses.{stop_of_config}
use Rattle.irc_endings.specs.declared.fault.Stop.TheVariants.{Failed}
use Rattle.ircd.specs.Serving.{IsServerOf}
use Rattle.ircd.proofs.SettingUp.{server_refused, unset_part}
use Rattle.ircd.proofs.setup.server_of.Goals as goal

pub returns-in_err-config : goal.returns-in_err-config
returns-in_err-config c =
    unset_part (IsServerOf c.args.settings.now) c.args.settings.now c.from_residual.result
    Failed tt
    c.from_residual.ensures.1

pub returns-in_err-server : goal.returns-in_err-server
returns-in_err-server c =
    unset_part
    (IsServerOf c.args.settings.now) c.args.settings.now c.from_residual-in_err-server.result
    (stop_of_config c.in_err-server.field-0.0)
    (server_refused c.args.settings.now c.in_ok-config.field-0 c.in_err-server.field-0.0
    c.in_ok-config.ensures
    c.in_err-server.ensures)
    c.from_residual-in_err-server.ensures.1

pub returns : goal.returns
returns c = record {
  config = c.in_ok-config.field-0;
  configures = c.in_ok-config.ensures;
  no_fault = c.in_ok-server.ensures.0;
  server_is = c.in_ok-server.ensures.1
      ∙ ap (λ some. Some (served_view some c.in_ok-config.field-0)) c.programs-programs.ensures;
}
