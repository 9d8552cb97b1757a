-- What is decided does something: no effect is idle when its turn comes.
use Rattle.std.specs.Prelude.{◌≡◌, false, List}
use Rattle.irc_room.specs.effect.Effect.{Effect}
use Rattle.irc_room.specs.Room.{Room}
use Rattle.irc_room.specs.Effects.{is_idle}
use Rattle.irc_room.specs.InTurn.{EachInTurn}
use Rattle.irc_acts.specs.declared.act.Act.{Act}
use Rattle.irc_acts.specs.Acts.{effects_among}

abbrev pub DoesSomething : Room → Effect → Type 0
DoesSomething room effect = is_idle room effect ≡ false

-- each effect of these steps does something in the room that those before it have left
abbrev pub AreDoing : Room → List Act → Type 0
AreDoing room acts = EachInTurn DoesSomething room (effects_among acts)
