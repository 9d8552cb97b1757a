-- The limit of what the program says. It is our own choice.
use Rattle.std.specs.Prelude.{ℕ}

-- the longest line on a bad script: 11 bytes, 20 digits, 13 bytes; our own choice
abbrev pub max_bad_script : ℕ
max_bad_script = 44
