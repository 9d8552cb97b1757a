use Rattle.std.proofs.Common.{refl}
use Rattle.ircd.proofs.SettingUp.{password_refused}
use Rattle.ircd.proofs.setup.asks.Goals as goal

pub returns-in_err-client_password : goal.returns-in_err-client_password
returns-in_err-client_password c =
    password_refused c.args.settings.now c.from_residual-in_err-client_password.result
    c.in_err-client_password.field-0.0 c.as_ref.result c.args.settings.now.password
    c.as_ref.ensures.value refl c.in_err-client_password.ensures
    c.from_residual-in_err-client_password.ensures.1
