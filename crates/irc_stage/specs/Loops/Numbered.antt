-- What the code's maps have under numbers.
use Rattle.std.specs.Prelude.{ℕ}
use Rattle.std.specs.BTreeMap.{BTreeMap}
use Rattle.std.specs.FinMap.{FinMap, from_entries}
use Rattle.std.specs.Ordering.{nat_cmp}

-- what stands under numbers: clients under those of their connections, ends under those of their
-- links
abbrev pub numbered : {X : Type 0} → BTreeMap ℕ X → FinMap nat_cmp X
numbered m = from_entries m.entries
