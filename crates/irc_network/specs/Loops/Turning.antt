-- How many bytes are on their way.
use Rattle.std.specs.Prelude.{ℕ, ◌+◌, List, [], ◌∷◌, length}
use Rattle.std.specs.FinMap.{entries}
use Rattle.irc_pipes.specs.Pipes.{LinkPipe, Pipes}

abbrev pub bytes_of_entries : List (ℕ × LinkPipe) → ℕ
bytes_of_entries [] = 0
bytes_of_entries (entry ∷ more) = length entry.1.bytes + bytes_of_entries more

abbrev pub bytes_on_way : Pipes → ℕ
bytes_on_way [] = 0
bytes_on_way (row ∷ pipes) = bytes_of_entries (entries row) + bytes_on_way pipes
