-- What comes of reading a configuration again.
use Rattle.std.specs.Prelude.{◌≡◌, ℕ, Ok, List}
use Rattle.irc_settings.specs.declared.settings.Settings.{Settings}
use Rattle.irc_settings.specs.Configuration.{AreSettingsOf}
use Rattle.ircd.specs.declared.rereading.Change.{Change}
use Rattle.ircd.specs.declared.setup.Setup.{Setup}
use Rattle.ircd.specs.Serving.{motd_file, HasMotd, IsSetUp}

-- they are those of some text
abbrev pub AreOfSomeText : Settings → Type 0
AreOfSomeText settings = (text : List ℕ) × AreSettingsOf text (Ok settings)

-- what these settings set up is this change; an outbox of so many bytes has room for the message
pub record IsChangeOf (settings : Settings) (room : ℕ) (change : Change) : Type 0 where
  pub setup : Setup
  pub is_set_up : IsSetUp settings setup
  pub limits_are : change.limits ≡ setup.listening.limits
  pub has_motd : HasMotd (motd_file setup) room change.motd
