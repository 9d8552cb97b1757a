use Rattle.std.proofs.Common.{rules}
use Rattle.irc_endings.proofs.fault.StopFromSettingsFault.from.Goals as goal

pub returns-in-BadConfiguration : goal.returns-in-BadConfiguration
returns-in-BadConfiguration c = search rules
