-- That nothing of what was put out before is changed.
use Rattle.std.specs.Prelude.{◌≡◌, List, ◌++◌}
use Rattle.irc_batch.specs.Batches.{Sent}

pub record Grew (old new : List Sent) : Type 0 where
  pub more : List Sent
  pub new_is : new ≡ old ++ more
