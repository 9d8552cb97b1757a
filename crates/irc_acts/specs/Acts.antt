-- What a line does, as steps in order.
use Rattle.std.specs.Prelude.{ℕ, List, [], ◌∷◌}
use Rattle.arrayvec.specs.ArrayVec.{ArrayVec}
use Rattle.irc_line.specs.Bytes.{cut}
use Rattle.irc_room.specs.effect.Effect.{Effect}
use Rattle.irc_acts.specs.declared.act.Act.{Act}
use Rattle.irc_acts.specs.declared.act.Act.TheVariants.{Do}

-- bytes as the code keeps them
abbrev pub bytes_kept : List ℕ → ArrayVec ℕ
bytes_kept bytes = record { items = bytes }

-- a client's own words, as much of them as a line holds
abbrev pub client_words : List ℕ → ArrayVec ℕ
client_words words = bytes_kept (cut words)

-- the effects among some steps
abbrev pub effects_among : List Act → List Effect
effects_among [] = []
effects_among (Do effect ∷ acts) = effect ∷ effects_among acts
effects_among (act ∷ acts) = effects_among acts
