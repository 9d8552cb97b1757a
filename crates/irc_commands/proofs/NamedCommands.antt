-- The table of commands, as the code has it.
use Rattle.std.proofs.Common.{◌≡◌, ◌+◌, ◌<◌, ℕ, Bool, false, cond, Option, Some, List, drop, get_or}
use Rattle.std.proofs.Common.{length, map, sym, ◌∙◌, ap}
use Rattle.std.proofs.lemmas.List.{drop_more}
use Rattle.std.specs.Borrow.{Bor}
use Rattle.irc_commands.specs.declared.command_names.Command.{Command}
use Rattle.irc_commands.specs.CommandNames.{same_letters, CommandRow, found, row_view}

-- a row of another name is passed by
pub row_passed : (word : List ℕ) (rows : List (Bor (List ℕ) × Command × ℕ))
    (i : ℕ) (d : Bor (List ℕ) × Command × ℕ) (is : Bool) (row : Option CommandRow)
    → i < length rows → is ≡ same_letters word ((get_or rows i d).0.now) → is ≡ false → row
    ≡ found word (map row_view (drop i rows)) → row ≡ found word (map row_view (drop (i + 1) rows))
row_passed word rows i d is row within tells other so_far =
    so_far
    ∙ ap (λ (left : List (Bor (List ℕ) × Command × ℕ)). found word (map row_view left))
    (drop_more rows i d within)
    ∙ ap (λ b. cond b (Some (row_view (get_or rows i d)))
    (found word (map row_view (drop (i + 1) rows)))) (sym tells ∙ other)
