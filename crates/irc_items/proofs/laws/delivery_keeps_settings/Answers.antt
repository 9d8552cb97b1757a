use Rattle.irc_items.proofs.KeepsSettings.{delivery_keeps_settings}
use Rattle.irc_items.proofs.laws.delivery_keeps_settings.Goals as goal

pub returns : goal.returns
returns c = delivery_keeps_settings c.keeps_its_setting.ensures
