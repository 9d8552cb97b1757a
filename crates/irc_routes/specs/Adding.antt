-- Why a server is not added to those that a server knows, if it is not: the causes in the order in
-- which they are looked for.
use Rattle.std.specs.Prelude.{◌≡◌, not, if◌then◌else◌, Option, Some, None, List, ℕ, ⊤}
use Rattle.irc_names.specs.Names.{is_server}
use Rattle.irc_routes.specs.declared.fault.RoutesFault.{RoutesFault}
use Rattle.irc_routes.specs.declared.fault.RoutesFault.TheVariants as fault
use Rattle.irc_routes.specs.Known.{Known, is_known, is_full}

abbrev pub added_fault : Known → List ℕ → Option RoutesFault
added_fault known name =
    if is_known known name then Some fault.Known
    else (if not (is_server name) then Some fault.BadName
    else (if is_full known then Some fault.Full else None))

-- A server is refused as is owed; where nothing is owed it may still be refused for want of memory.
abbrev pub IsOwedOrMemory : Option RoutesFault → Option RoutesFault → Type 0
IsOwedOrMemory (Some owed) given = given ≡ Some owed
IsOwedOrMemory None None = ⊤
IsOwedOrMemory None (Some given) = given ≡ fault.Memory
