-- What a server is to those above, as its code has it.
use Rattle.std.specs.Prelude.{Option, Some, None}
use Rattle.irc_stage.specs.View.{View}
use Rattle.irc_server.specs.declared.server.State.{State}
use Rattle.irc_server.specs.declared.server.State.TheVariants.{First, Running, Failed}

-- nothing once memory ran out
abbrev pub view_in : State → Option View
view_in (First view) = Some view
view_in (Running view) = Some view
view_in Failed = None
