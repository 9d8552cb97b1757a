-- How far apart servers call that have lost others at the same moment.
use Rattle.std.specs.Prelude.{ℕ, ◌+◌, ◌*◌, ◌%◌, List}
use Rattle.std.specs.List.{fold}

-- the spread behind one more byte of the name, or behind a call: less than 797 milliseconds
abbrev pub spread_on : ℕ → ℕ → ℕ
spread_on spread byte = ((spread % 797 + byte) * 319) % 797

-- that of a server's own name
abbrev pub name_spread : List ℕ → ℕ
name_spread name = fold spread_on 0 name
