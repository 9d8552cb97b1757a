-- A server of a network as memory runs out for it.
use Rattle.std.specs.Prelude.{Bool, true, false, Result, Ok, Err}
use Rattle.irc_server.specs.declared.event.ServerFault.{ServerFault}
use Rattle.irc_server.specs.declared.event.ServerFault.TheVariants.{Memory, Failed}

-- memory ran out for a server, now or before
abbrev pub is_want : Result (Unit {0}) ServerFault → Bool
is_want (Ok _) = false
is_want (Err Memory) = true
is_want (Err Failed) = true
is_want (Err fault) = false
