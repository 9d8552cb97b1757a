use Rattle.std.proofs.Common.{sym, ◌∙◌, rules}
use Rattle.std.proofs.lemmas.Bool.{and_right}
use Rattle.toml.specs.View.{table_view}
use Rattle.irc_settings.specs.Configuration.{Tells}
use Rattle.irc_settings.specs.Keys.{bursts_are_paced, is_in_form, server_keys}
use Rattle.irc_settings.proofs.Paces.{other_passes}
use Rattle.irc_settings.proofs.settings.settings_of.Goals as goal

pub returns-then-not-bursts_are_paced : goal.returns-then-not-bursts_are_paced
returns-then-not-bursts_are_paced c =
    and_right (is_in_form server_keys (table_view c.args.document.now))
    (bursts_are_paced (table_view c.args.document.now))
    (sym c.bursts_are_paced.ensures ∙ search rules)

pub returns : goal.returns
returns c =
    other_passes (is_in_form server_keys (table_view c.args.document.now))
    (bursts_are_paced (table_view c.args.document.now)) (Tells (table_view c.args.document.now))
    c.settings_in.result (sym c.bursts_are_paced.ensures ∙ search rules) c.settings_in.ensures
