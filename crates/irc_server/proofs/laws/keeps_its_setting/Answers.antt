use Rattle.irc_server.proofs.SettingKept.{keeps_its_setting}
use Rattle.irc_server.proofs.laws.keeps_its_setting.Goals as goal

pub returns : goal.returns
returns c = keeps_its_setting
