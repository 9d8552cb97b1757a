-- The parameters of changes, taken one by one from words.
use Rattle.std.proofs.Common.{ℕ, Bool, List}
use Rattle.irc_link_words.specs.Words.{parameters}
use Rattle.std.specs.Cmp.Lexicographic.{pointwise}
use Rattle.std.specs.Str.{bytes_eq}
use Rattle.irc_modes.specs.declared.modes.ModeChange.{ModeChange}

abbrev pub fits_words : List ModeChange → List (List ℕ) → Bool
fits_words changes words = pointwise bytes_eq (parameters changes) words
