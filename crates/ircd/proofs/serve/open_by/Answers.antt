use Rattle.ircd.proofs.Ready.{manner_unread, opened_by, settings_refused, unopened_for}
use Rattle.ircd.proofs.SettingUp.{served_has_nobody}
use Rattle.ircd.proofs.serve.open_by.Goals as goal

pub open-requires-clause-nobody : goal.open-requires-clause-nobody
open-requires-clause-nobody g c =
    let made = c.in_ok-setup.ensures.server in
    served_has_nobody _ made.config _ (made.no_fault, made.server_is)

pub returns-in_err-setup : goal.returns-in_err-setup
returns-in_err-setup g c = unopened_for c.args.settings.now c.from_residual.result
    c.in_err-setup.field-0.0 _ _
    (λ held. settings_refused c.args.settings.now c.in_err-setup.field-0.0 held _
    c.in_err-setup.ensures) c.from_residual.ensures.1

pub returns-in_err-manner : goal.returns-in_err-manner
returns-in_err-manner g c =
    unopened_for c.args.settings.now c.from_residual-in_err-manner.result
    c.in_err-manner.field-0.0 _ _
    (λ held. manner_unread c.args.settings.now c.in_ok-setup.setup c.in_err-manner.field-0.0
    held _ c.in_ok-setup.ensures c.in_err-manner.ensures)
    c.from_residual-in_err-manner.ensures.1

pub returns : goal.returns
returns g c = opened_by c.args.settings.now c.in_ok-setup.setup c.open.result _ _
    c.in_ok-setup.ensures c.open.ensures
