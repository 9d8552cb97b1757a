-- The table of commands, as the code has it.
use Rattle.std.proofs.Common.{◌≡◌, ◌+◌, ◌<◌, ℕ, Bool, false, cond, Option, Some, List, drop, get_or}
use Rattle.std.proofs.Common.{length, sym, ◌∙◌, ap}
use Rattle.std.proofs.lemmas.List.{drop_more}
use Rattle.std.specs.Borrow.{Bor}
use Rattle.irc_link_words.specs.declared.commands.LinkCommand.{LinkCommand}
use Rattle.irc_link_words.specs.Loops.Rows.{found}
use Rattle.irc_link_words.specs.Words.{is_command}

-- a row of another name is passed by
pub row_passed : (word : List ℕ) (rows : List (Bor (List ℕ) × LinkCommand))
    (i : ℕ) (d : Bor (List ℕ) × LinkCommand) (is : Bool) (command : Option LinkCommand)
    → i < length rows → is ≡ is_command ((get_or rows i d).0.now) word → is ≡ false
    → command ≡ found word (drop i rows) → command ≡ found word (drop (i + 1) rows)
row_passed word rows i d is command within tells other so_far =
    so_far
    ∙ ap (found word) (drop_more rows i d within)
    ∙ ap (λ b. cond b (Some ((get_or rows i d).1)) (found word (drop (i + 1) rows)))
    (sym tells ∙ other)
