-- Which fault of a script's run a trouble is.
use Rattle.std.specs.Prelude.{Result, Ok, Err}
use Rattle.irc_script.specs.declared.fault.SimFault.{SimFault}
use Rattle.irc_script.specs.declared.fault.SimFault.TheVariants as fault
use Rattle.irc_script.specs.declared.fault.Trouble.{Trouble}
use Rattle.irc_script.specs.declared.fault.Trouble.TheVariants as trouble
use Rattle.irc_script.specs.declared.fault.Unwritten.{Unwritten}

abbrev pub fault_of : Trouble → SimFault
fault_of trouble.Memory = fault.Failed
fault_of trouble.Device = fault.Device

-- what could not be written ends a run
abbrev pub of_writing : Result (Unit {0}) Unwritten → Result (Unit {0}) Trouble
of_writing (Ok done) = Ok done
of_writing (Err fault) = Err trouble.Device
