use Rattle.std.proofs.Common.{Ok, refl, sym, subst}
use Rattle.irc_endings.specs.declared.fault.Stop.TheVariants.{Failed}
use Rattle.irc_settings.specs.declared.settings.Settings.{Settings}
use Rattle.irc_settings.specs.Configuration.{AreSettingsOf}
use Rattle.ircd.specs.Serving.IsCutShort.{unprinted}
use Rattle.ircd.proofs.Ready.{text_refused, unserved}
use Rattle.ircd.proofs.serve.serve_text.Goals as goal

pub returns-in_err-settings : goal.returns-in_err-settings
returns-in_err-settings g c = unserved c.args.source.now.text.now c.args.turns
    c.from_residual.result c.in_err-settings.field-0.0 _ _ _ _
    (text_refused c.args.source.now.text.now c.in_err-settings.field-0.0 _ _
    c.in_err-settings.ensures) c.from_residual.ensures.1

pub returns-in_err-watch : goal.returns-in_err-watch
returns-in_err-watch g c = unserved c.args.source.now.text.now c.args.turns
    c.from_residual-in_err-watch.result Failed _ _ _ _ (unprinted refl refl)
    c.from_residual-in_err-watch.ensures.1

pub returns : goal.returns
returns g c =
    c.serve_watched.ensures c.args.source.now.text.now
    (subst (λ (s : Settings). AreSettingsOf c.args.source.now.text.now (Ok s))
    (sym c.in_ok-watch.ensures) c.in_ok-settings.ensures)
