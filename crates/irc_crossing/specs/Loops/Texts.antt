-- A line that is written, as bytes.
use Rattle.std.specs.Prelude.{ℕ, List}
use Rattle.arrayvec.specs.ArrayVec.{ArrayVec}

abbrev pub bytes_of : ArrayVec ℕ → List ℕ
bytes_of line = line.items
