-- What a table tells of the pace of lines.
use Rattle.std.proofs.Common.{◌≡◌, Bool, true, ◌&&◌, Result, Ok, Err}
use Rattle.std.proofs.lemmas.Bool.{and_left, and_from}
use Rattle.irc_settings.specs.declared.fault.SettingsFault.{SettingsFault}
use Rattle.irc_settings.specs.declared.fault.SettingsFault.TheVariants.{BadConfiguration, Memory}
use Rattle.irc_settings.specs.Loops.Finding.{FindsValue}

pub other_passes : {X : Type 0} (test other : Bool) (Is : X → Type 0) (r : Result X SettingsFault)
    → other ≡ true → FindsValue test Is r → FindsValue (test && other) Is r
other_passes test other Is (Ok found) passes finds = (and_from test other finds.0 passes, finds.1)
other_passes test other Is (Err BadConfiguration) passes finds = and_left test other finds
other_passes test other Is (Err Memory) passes finds = tt
