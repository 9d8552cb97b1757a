use Rattle.irc_items.proofs.KeepsSettings.{given_keeps_settings}
use Rattle.irc_items.proofs.laws.given_keeps_settings.Goals as goal

pub returns : goal.returns
returns c = given_keeps_settings c.keeps_its_setting.ensures
