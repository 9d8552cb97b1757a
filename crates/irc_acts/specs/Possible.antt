-- What is decided can be done: each change of the room is possible when its turn comes.
use Rattle.std.specs.Prelude.{List}
use Rattle.irc_room.specs.Room.{Room}
use Rattle.irc_room.specs.Effects.{IsPossible}
use Rattle.irc_room.specs.InTurn.{EachInTurn}
use Rattle.irc_acts.specs.declared.act.Act.{Act}
use Rattle.irc_acts.specs.Acts.{effects_among}

-- each effect of these steps is possible in the room that those before it have left
abbrev pub ArePossible : Room → List Act → Type 0
ArePossible room acts = EachInTurn IsPossible room (effects_among acts)
