use Rattle.ircd.proofs.Ready.{file_refused, file_served}
use Rattle.ircd.proofs.serve.serve.Goals as goal

pub returns-in_err-text : goal.returns-in_err-text
returns-in_err-text g c = file_refused c.args.turns c.from_residual.result c.in_err-text.field-0.0 _
    _ c.in_err-text.ensures c.from_residual.ensures.1

pub returns : goal.returns
returns g c =
    file_served c.as_str.result.now c.args.turns c.serve_text.result _ _ _ _ c.serve_text.ensures
