use Rattle.irc_items.proofs.KeptSound.{delivery_keeps_sound}
use Rattle.irc_items.proofs.laws.delivery_keeps_sound.Goals as goal

pub returns : goal.returns
returns c = delivery_keeps_sound c.delivery_keeps_settings.ensures c.delivery_stays_sound.ensures
