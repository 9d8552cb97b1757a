use Rattle.std.proofs.Common.{rules, ◌≡◌, refl}
use Rattle.irc_names.specs.Fold.{key}
use Rattle.irc_names.specs.Tables.{fold_cmp}
use Rattle.irc_tables.specs.RowViews.{row_entry}
use Rattle.irc_tables.specs.Lemmas.SearchedRows.{answers_kept, place_found}
use Rattle.irc_acts.proofs.name_lines.place_of.Goals as goal

pub returns : goal.returns
returns c =
    let by_fold = c.binary_search_by.ensures.position
    (λ row. fold_cmp (key row.name.items) (key c.args.nick.now))
    (answers_kept _ _ (λ f. f.0.now ≡ c.args.nick.now)
    (λ f a r g kept called. (search rules, search rules)) _ refl) in
    place_found row_entry _ _ _ c.requires c.binary_search_by.ensures.bound by_fold
