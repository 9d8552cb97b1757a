use Rattle.std.proofs.Common.{rules, ◌≡◌, refl, sym, subst}
use Rattle.irc_names.specs.Tables.{fold_cmp}
use Rattle.irc_tables.specs.FoldedRows.{IsInFoldedOrder, IsPlaceOf}
use Rattle.irc_tables.specs.Lemmas.RowsAsTable.{place-known}
use Rattle.irc_tables.specs.Lemmas.SearchedRows.{answers_kept, place_found}
use Rattle.irc_routes.specs.Loops.Tokens.{token_key, token_entry}
use Rattle.irc_routes.proofs.tokens.Tokens.place_of.Goals as goal

pub returns : goal.returns
returns c =
    let key = token_key c.args.link c.args.token in
    let by_key =
    c.binary_search_by.ensures.position (λ row. fold_cmp (token_key row.link row.token) key)
    (answers_kept _ _ (λ f. (f.0.now ≡ c.args.link) × (f.1.now ≡ c.args.token))
    (λ f a r g kept called. (search rules, search rules)) _ (refl, refl)) in
    let ordered =
    subst (λ ts. IsInFoldedOrder token_entry ts) (sym c.deref.ensures.value) c.requires in
    let place =
    subst (λ ts. IsPlaceOf token_entry ts key c.binary_search_by.result) c.deref.ensures.value
    (place_found token_entry c.deref.result.now key c.binary_search_by.result ordered
    c.binary_search_by.ensures.bound by_key) in
    record {
      place = place;
      known = place-known token_entry c.args.self.now.rows.items key
          c.binary_search_by.result c.requires place;
    }
