use Rattle.ircd.specs.Serving.{IsSetUp}
use Rattle.ircd.proofs.SettingUp.{unset_part}
use Rattle.ircd.proofs.setup.set_up.Goals as goal

pub returns-in_err-calls_of : goal.returns-in_err-calls_of
returns-in_err-calls_of c =
    unset_part (IsSetUp c.args.settings.now) c.args.settings.now c.from_residual.result
    c.in_err-calls_of.field-0.0 c.in_err-calls_of.ensures
    c.from_residual.ensures.1

pub returns-in_err-listening_of : goal.returns-in_err-listening_of
returns-in_err-listening_of c =
    unset_part
    (IsSetUp c.args.settings.now) c.args.settings.now c.from_residual-in_err-listening_of.result
    c.in_err-listening_of.field-0.0 c.in_err-listening_of.ensures
    c.from_residual-in_err-listening_of.ensures.1

pub returns-in_err-server_of : goal.returns-in_err-server_of
returns-in_err-server_of c =
    unset_part
    (IsSetUp c.args.settings.now) c.args.settings.now c.from_residual-in_err-server_of.result
    c.in_err-server_of.field-0.0 c.in_err-server_of.ensures
    c.from_residual-in_err-server_of.ensures.1

pub returns-in_err-speech_of : goal.returns-in_err-speech_of
returns-in_err-speech_of c =
    unset_part
    (IsSetUp c.args.settings.now) c.args.settings.now c.from_residual-in_err-speech_of.result
    c.in_err-speech_of.field-0.0 c.in_err-speech_of.ensures
    c.from_residual-in_err-speech_of.ensures.1

pub returns : goal.returns
returns c = record {
  server = c.in_ok-server_of.ensures;
  listening = c.in_ok-listening_of.ensures;
  calls = c.in_ok-calls_of.ensures;
  speech = c.in_ok-speech_of.ensures;
}
