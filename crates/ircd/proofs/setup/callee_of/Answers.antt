use Rattle.std.proofs.Common.{Ok, Err, option_map, string_bytes, subst}
use Rattle.ircd.specs.Serving.{IsAddress}
use Rattle.ircd.specs.Loops.SettingUp.{FindsName}
use Rattle.ircd.proofs.SettingUp.{address_refused, found_in, name_refused}
use Rattle.ircd.proofs.setup.callee_of.Goals as goal

pub returns-in_err-address : goal.returns-in_err-address
returns-in_err-address c =
    address_refused c.args.peer.now c.from_residual.result c.in_err-address.field-0.0
    (found_in c.as_ref.result c.args.peer.now.connect
    (Err c.in_err-address.field-0.0) c.as_ref.ensures.value c.in_err-address.ensures)
    c.from_residual.ensures.1

pub returns-in_err-name-in-Some : goal.returns-in_err-name-in-Some
returns-in_err-name-in-Some c =
    name_refused c.args.peer.now c.from_residual-in_err-name-in-Some.result
    c.in_err-name-in-Some.field-0.0 c.in-Some.address
    (subst (λ address. IsAddress (option_map string_bytes c.args.peer.now.connect) address)
    c.in-Some.is
    (found_in c.as_ref.result c.args.peer.now.connect
    (Ok c.in_ok-address.field-0) c.as_ref.ensures.value c.in_ok-address.ensures))
    (subst (λ text. FindsName text (Err c.in_err-name-in-Some.field-0.0)) c.as_str.ensures.value
    c.in_err-name-in-Some.ensures)
    c.from_residual-in_err-name-in-Some.ensures.1
