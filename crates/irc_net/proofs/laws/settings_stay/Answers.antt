use Rattle.irc_net.proofs.StaysSetUp.{settings_stay}
use Rattle.irc_net.proofs.laws.settings_stay.Goals as goal

pub returns : goal.returns
returns c =
    settings_stay c.keeps_its_setting.ensures c.given_keeps_settings.ensures c.given_is_kept.ensures
