-- Lines that are filled, and sent when they are full.
use Rattle.std.specs.Prelude.{◌≡◌, ℕ, List, ◌++◌, map}
use Rattle.irc_acts.specs.declared.act.Act.{Act}
use Rattle.irc_acts.specs.Names.{in_lines}

-- so many to a line
abbrev pub lines_of : {X : Type 0} → ℕ → (List X → Act) → List X → List Act
lines_of size line items = map line (in_lines size items)

-- Some came behind those that were held, and lines that are full were sent: whatever comes later,
-- the steps before and the lines of all are the steps after and the lines of what is held then.
pub record Came {X : Type 0} (size : ℕ) (line : List X → Act) (before : List Act)
    (held items : List X) (after : List Act) (left : List X) : Type 0 where
  pub lines : (later : List X) → before ++ lines_of size line (held ++ (items ++ later)) ≡ after
      ++ lines_of size line (left ++ later)
