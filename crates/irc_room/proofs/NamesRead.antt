-- The names of a user's channels, read from rows under them.
use Rattle.std.specs.Prelude.{◌≡◌, ℕ, List, [], ◌∷◌, map}
use Rattle.std.proofs.Common.{refl, sym, ◌∙◌, ap}
use Rattle.irc_names.specs.Fold.{key}
use Rattle.irc_tables.specs.declared.table.Row.{Row}
use Rattle.irc_tables.specs.RowViews.{row_entry}
use Rattle.irc_channels.specs.declared.channel.Channel.{Channel}

folds_of_rows : (rows : List (Row (Unit {0})))
    → map (λ e. e.0) (map row_entry rows) ≡ map (λ row. key row.name.items) rows
folds_of_rows [] = refl
folds_of_rows (row ∷ rows) = ap (λ more. key row.name.items ∷ more) (folds_of_rows rows)

folds_of_entries : (es : List (List ℕ × Channel))
    → map (λ (n : List ℕ × Unit {0}). n.0) (map (λ e. (e.0, tt)) es) ≡ map (λ e. e.0) es
folds_of_entries [] = refl
folds_of_entries (e ∷ es) = ap (λ more. e.0 ∷ more) (folds_of_entries es)

pub folds_read : (rows : List (Row (Unit {0}))) (es : List (List ℕ × Channel))
    → map row_entry rows ≡ map (λ e. (e.0, tt)) es
    → map (λ row. key row.name.items) rows ≡ map (λ e. e.0) es
folds_read rows es are =
    sym (folds_of_rows rows)
    ∙ ap (map (λ (n : List ℕ × Unit {0}). n.0)) are
    ∙ folds_of_entries es
