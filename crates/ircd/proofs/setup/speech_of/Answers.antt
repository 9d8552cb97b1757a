use Rattle.std.proofs.Common.{◌∙◌}
use Rattle.irc_endings.specs.declared.fault.Stop.TheVariants.{Failed}
use Rattle.ircd.specs.Serving.{IsSpeechOf}
use Rattle.ircd.proofs.SettingUp.{asks_refused, lent_is, unset_part}
use Rattle.ircd.proofs.setup.speech_of.Goals as goal

pub returns-in_err-optional_text : goal.returns-in_err-optional_text
returns-in_err-optional_text c =
    unset_part (IsSpeechOf c.args.settings.now) c.args.settings.now c.from_residual.result
    Failed tt
    c.from_residual.ensures.1

pub returns-in_err-asks : goal.returns-in_err-asks
returns-in_err-asks c =
    unset_part
    (IsSpeechOf c.args.settings.now) c.args.settings.now c.from_residual-in_err-asks.result
    c.in_err-asks.field-0.0
    (asks_refused c.args.settings.now c.in_err-asks.field-0.0 c.in_err-asks.ensures)
    c.from_residual-in_err-asks.ensures.1

pub returns : goal.returns
returns c = record {
  programs = c.programs.ensures;
  motd = c.in_ok-optional_text.ensures
      ∙ lent_is c.as_ref.result c.args.settings.now.motd c.as_ref.ensures.value;
  asks = c.in_ok-asks.ensures;
}
