-- How the program ends: the exit status, and what it says on standard error.
use Rattle.std.specs.Prelude.{ℕ, List, [], ◌++◌, codes, decimal, Result, Ok, Err}
use Rattle.std.specs.declared.io.ErrorKind.{ErrorKind}
use Rattle.std.specs.declared.io.ErrorKind.TheVariants as kind
use Rattle.irc_settings.specs.declared.fault.SettingsFault.{SettingsFault}
use Rattle.irc_settings.specs.declared.fault.SettingsFault.TheVariants as settings
use Rattle.irc_server.specs.declared.config.ConfigFault.{ConfigFault}
use Rattle.irc_server.specs.declared.config.ConfigFault.TheVariants as config
use Rattle.irc_script.specs.declared.fault.SimFault.{SimFault}
use Rattle.irc_script.specs.declared.fault.SimFault.TheVariants as fault
use Rattle.irc_endings.specs.declared.fault.Stop.{Stop}
use Rattle.irc_endings.specs.declared.fault.Stop.TheVariants as stop

abbrev pub stop_of : SimFault → Stop
stop_of (fault.BadScript line) = stop.BadScript line
stop_of fault.Failed = stop.Failed
stop_of fault.Device = stop.Failed

-- how the program ends where it cannot go on
abbrev pub stopped : Stop
stopped = stop.Failed

-- of the configuration: a text that is none, and a server that is refused
abbrev pub stop_of_settings : SettingsFault → Stop
stop_of_settings settings.BadConfiguration = stop.BadConfiguration
stop_of_settings settings.Memory = stop.Failed

abbrev pub stop_of_config : ConfigFault → Stop
stop_of_config config.BadName = stop.BadConfiguration
stop_of_config config.DoubleName = stop.BadConfiguration
stop_of_config config.Memory = stop.Failed

-- of the words of the command line, where the system does not give them: one that is no text is
-- none of ours
abbrev pub stop_unread : ErrorKind → Stop
stop_unread kind.InvalidData = stop.Usage
stop_unread _ = stop.Failed

-- the exit status
abbrev pub status_of : Stop → ℕ
status_of stop.Usage = 2
status_of (stop.BadScript line) = 3
status_of stop.BadConfiguration = 3
status_of stop.Failed = 4

-- the line that is written
abbrev pub stop_line : Stop → List ℕ
stop_line stop.Usage = codes "ircd: usage: ircd sim | ircd serve FILE [TURNS]\n"
stop_line (stop.BadScript line) = codes "ircd: line " ++ decimal line ++ codes ": bad script\n"
stop_line stop.BadConfiguration = codes "ircd: bad configuration\n"
stop_line stop.Failed = codes "ircd: failed\n"

abbrev pub exit_status : Result (Unit {0}) Stop → ℕ
exit_status (Ok _) = 0
exit_status (Err stop) = status_of stop

-- what is said of an ending: nothing where the work is done
abbrev pub ending_text : Result (Unit {0}) Stop → List ℕ
ending_text (Ok _) = []
ending_text (Err stop) = stop_line stop

-- how a script's run ends the program
abbrev pub ending_of : Result (Unit {0}) SimFault → Result (Unit {0}) Stop
ending_of (Ok _) = Ok tt
ending_of (Err fault) = Err (stop_of fault)
