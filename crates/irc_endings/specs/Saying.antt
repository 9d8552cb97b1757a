-- What is said on a stream.
use Rattle.std.specs.Prelude.{ℕ, Option, List}
use Rattle.std.specs.Io.KnownBytes.{Appends}

-- a text is said, all of it
abbrev pub Utters : {W : Type 0} → (W → Option (List ℕ)) → List ℕ → W → W → Type 0
Utters held text old new = Appends (held old) (held new) text
