-- What is left to be written of the letters of a MODE.
use Rattle.std.specs.Prelude.{ℕ, Bool, Option, Some, None, List}
use Rattle.irc_modes.specs.declared.modes.ModeChange.{ModeChange}
use Rattle.irc_modes.specs.ModeWritten.{letters_behind, letters_text}

-- the letters of changes behind one with this sign, or where none is before them
abbrev pub letters_from : Option Bool → List ModeChange → List ℕ
letters_from None changes = letters_text changes
letters_from (Some sign) changes = letters_behind sign changes
