-- What the program says before it serves.
use Rattle.std.specs.Prelude.{ℕ, List, codes}

-- what is printed once clients can connect
abbrev pub ready_text : List ℕ
ready_text = codes "ready\n"
