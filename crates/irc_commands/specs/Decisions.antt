-- What a line does: its steps, and whether its client stays.
use Rattle.std.specs.Prelude.{Bool, false, List, []}
use Rattle.irc_acts.specs.declared.act.Act.{Act}

-- the steps, and whether the client is closed after them
pub record Decided : Type 0 where
  pub steps : List Act
  pub close : Bool

-- nothing is done
abbrev pub nothing : Decided
nothing = record { steps = []; close = false }

-- these steps, and the client stays
abbrev pub does : List Act → Decided
does steps = record { steps = steps; close = false }
