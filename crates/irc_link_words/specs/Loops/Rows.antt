-- What the code that looks for a command finds.
use Rattle.std.specs.Prelude.{ℕ, Option, Some, None, List, [], ◌∷◌, if◌then◌else◌}
use Rattle.std.specs.Borrow.{Bor}
use Rattle.irc_link_words.specs.declared.commands.LinkCommand.{LinkCommand}
use Rattle.irc_link_words.specs.Words.{is_command}

-- the command of the first of these rows that has this name
abbrev pub found : List ℕ → List (Bor (List ℕ) × LinkCommand) → Option LinkCommand
found word [] = None
found word (row ∷ rows) = if is_command row.0.now word then Some row.1 else found word rows
