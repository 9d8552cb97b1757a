-- The pipes from one server, as the code changes and reads them.
use Rattle.std.specs.Prelude.{ℕ, List}
use Rattle.std.specs.FinMap.{FinMap}
use Rattle.std.specs.Ordering.{nat_cmp}
use Rattle.irc_forest.specs.declared.places.EndPlaces.{EndPlaces}
use Rattle.irc_pipes.specs.Pipes.{Direction, LinkPipe, advanced, put_in, pipe_in, written}

abbrev pub PipeRow : Type 0
PipeRow = FinMap nat_cmp LinkPipe

-- a line is written to a place
abbrev pub written_in : ℕ → List ℕ → PipeRow → PipeRow
written_in to line row = put_in to (written line (pipe_in to row)) row

-- so many bytes have come to a place
abbrev pub advanced_in : ℕ → ℕ → PipeRow → PipeRow
advanced_in to count row = put_in to (advanced count (pipe_in to row)) row

-- the pipe to a place goes where it is still
abbrev pub without_still : ℕ → PipeRow → PipeRow
without_still to row = put_in to (pipe_in to row) row

abbrev pub direction_of : EndPlaces → Direction
direction_of ends = record { from = ends.near; to = ends.far }
