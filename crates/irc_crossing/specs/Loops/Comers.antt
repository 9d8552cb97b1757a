-- Two who come.
use Rattle.std.specs.Prelude.{Bool, false, not, ◌&&◌, Option, Some}
use Rattle.irc_names.specs.Fold.{same}
use Rattle.irc_crossing.specs.declared.change.Change.{Change}
use Rattle.irc_crossing.specs.declared.change.Change.TheVariants.{Come}

-- whether two users come under two nicknames
abbrev pub are_comers : (one other : Option Change) → Bool
are_comers (Some (Come one)) (Some (Come other)) = not (same one other) && not (same other one)
are_comers one other = false
