-- The map behind a map by name, as the table that a clause speaks of.
use Rattle.std.proofs.Common.{◌≡◌, ℕ, true, Some, None, List, [], ◌∷◌, length, map, refl, sym, ◌∙◌}
use Rattle.std.proofs.Common.{ap}
use Rattle.std.proofs.lemmas.Bool.{and_from}
use Rattle.std.proofs.lemmas.List.{length-map, map-id}
use Rattle.std.specs.declared.cmp.Ordering.TheVariants.{Less}
use Rattle.std.specs.BTreeMap.{BTreeMap, UpdatesBy, get_by}
use Rattle.std.specs.List.{AllByRecursion}
use Rattle.std.specs.List.Sorted.{IsStrictlySortedBy}
use Rattle.std.specs.Map.{keys_of}
use Rattle.std.specs.Ordering.{is_lt}
use Rattle.std.specs.FinMap.Entries.{below_all}
use Rattle.std.specs.Cmp.Lexicographic.{nat_list_cmp_total}
use Rattle.std.specs.FinMap.{IsAntisymmetric, entries, insert, is_sorted, keys, remove, values}
use Rattle.std.specs.FinMap.{from_entries, slice_cmp-IsAntisymmetric, nat_cmp-IsAntisymmetric}
use Rattle.irc_names.specs.Tables.{fold_cmp, Table, row, alter}
use Rattle.irc_tables.specs.FoldedRows.{table_of, IsInFoldedOrder}
use Rattle.irc_tables.specs.Lemmas.RowsAsTable.{entries-table_of}
use Rattle.irc_tables.specs.Lemmas.OrderedMaps.{get-mapped, put-mapped, taken-mapped}

folds_apart : IsAntisymmetric fold_cmp
folds_apart = slice_cmp-IsAntisymmetric nat_cmp-IsAntisymmetric

pub row_in : {X : Type 0} (rows : BTreeMap (List ℕ) X) (table : Table X) (k fold : List ℕ)
    → from_entries rows.entries ≡ table → k ≡ fold → get_by (fold_cmp k) rows ≡ row table fold
row_in rows table k fold shows is =
    sym (get-mapped nat_list_cmp_total folds_apart rows k) ∙ ap (λ t. row t k) shows
    ∙ ap (row table) is

pub put_in : {X : Type 0} (old new : BTreeMap (List ℕ) X) (table : Table X) (k fold : List ℕ)
    (x : X) → from_entries old.entries ≡ table → k ≡ fold → UpdatesBy fold_cmp (fold_cmp k) old new
    (Some x) → from_entries {R = fold_cmp} new.entries ≡ alter fold (λ _. Some x) table
unfolding alter
put_in old new table k fold x shows is updates =
    put-mapped nat_list_cmp_total folds_apart old new k x updates ∙ ap (λ t. insert t k x) shows
    ∙ ap (λ f. insert table f x) is

pub taken_out : {X : Type 0} (old new : BTreeMap (List ℕ) X) (table : Table X) (k fold : List ℕ)
    → from_entries old.entries ≡ table → k ≡ fold → UpdatesBy fold_cmp (fold_cmp k) old new None
    → from_entries {R = fold_cmp} new.entries ≡ alter fold (λ _. None) table
unfolding alter
taken_out old new table k fold shows is updates =
    taken-mapped nat_list_cmp_total folds_apart old new k updates ∙ ap (λ t. remove t k) shows
    ∙ ap (remove table) is

-- ---- in folded order

below : {X : Type 0} (fold : List ℕ) (es : List (List ℕ × X)) → AllByRecursion
    (λ other. fold_cmp fold other ≡ Less) (keys_of es) → below_all fold_cmp fold es ≡ true
below fold [] less = refl
below fold (e ∷ es) less = and_from _ _ (ap is_lt less.0) (below fold es less.1)

rising : {X : Type 0} (es : List (List ℕ × X)) → IsStrictlySortedBy fold_cmp (keys_of es)
    → is_sorted fold_cmp es ≡ true
unfolding IsStrictlySortedBy
rising [] sorted = refl
rising (e ∷ es) sorted = and_from _ _ (below e.0 es sorted.0) (rising es sorted.1)

listed : {X : Type 0} (rows : BTreeMap (List ℕ) X) (table : Table X) → from_entries rows.entries
    ≡ table → IsStrictlySortedBy fold_cmp (keys_of rows.entries) → rows.entries ≡ entries table
unfolding IsInFoldedOrder table_of
listed rows table shows sorted =
    sym (entries-table_of (λ e. e) rows.entries (ap (is_sorted fold_cmp) (map-id rows.entries)
    ∙ rising rows.entries sorted) ∙ map-id rows.entries)
    ∙ ap (λ es. entries (from_entries {R = fold_cmp} es)) (map-id rows.entries) ∙ ap entries shows

pub values_listed : {X : Type 0} (rows : BTreeMap (List ℕ) X) (table : Table X)
    → from_entries rows.entries ≡ table → IsStrictlySortedBy fold_cmp (keys_of rows.entries)
    → map (λ e. e.1) rows.entries ≡ values table
values_listed rows table shows sorted = ap (map (λ e. e.1)) (listed rows table shows sorted)

pub length_listed : {X : Type 0} (rows : BTreeMap (List ℕ) X) (table : Table X)
    → from_entries rows.entries ≡ table → IsStrictlySortedBy fold_cmp (keys_of rows.entries)
    → length rows.entries ≡ length (keys table)
length_listed rows table shows sorted =
    ap length (listed rows table shows sorted) ∙ sym (length-map (entries table) (λ e. e.0))
