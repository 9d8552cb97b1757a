-- What is decided of one entry of a PART's list.
use Rattle.std.specs.Prelude.{◌≡◌, ℕ, List, [], ◌∷◌}
use Rattle.irc_acts.specs.declared.act.Act.{Act}
use Rattle.irc_acts.specs.declared.context.Context.{Context}
use Rattle.irc_acts.specs.Ahead.{ahead}
use Rattle.irc_channel_commands.specs.Part.{part_one}

-- an act is what leaving one channel does, in the room as some steps leave it
abbrev pub IsPartAhead : Context → List ℕ → List Act → List ℕ → Act → Type 0
IsPartAhead context text steps name act =
    part_one context.me.now text (ahead context.room.now.room steps) name ≡ act ∷ []
