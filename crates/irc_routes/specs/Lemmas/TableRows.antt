-- What the rows of a table say of it, whatever the rows are.
use Rattle.std.specs.Prelude.{T}
use Rattle.std.proofs.Common.{◌≡◌, ℕ, zero, suc, ◌≤◌, Bool, true, false, cond, ◌||◌, List, [], ◌∷◌}
use Rattle.std.proofs.Common.{◌++◌, map, filter, take, drop, length, refl, sym, ◌∙◌, ap, subst}
use Rattle.std.proofs.Common.{Option, Some, None, Result, Ok, is_ok, Bor, arith, append_assoc}
use Rattle.std.proofs.lemmas.List.{length-map, map-append}
use Rattle.std.proofs.lemmas.List.Sums.{length-filter, count_by-le-length}
use Rattle.std.specs.List.{list_any, insert}
use Rattle.std.specs.List.Retain.{RetainsInTurn}
use Rattle.std.specs.Option.{option_and_then}
use Rattle.std.specs.Cmp.Lexicographic.{nat_list_cmp_total}
use Rattle.std.specs.FinMap.{entries, entries_sorted, values, len, find, from_sorted, is_sorted}
use Rattle.std.specs.FinMap.{get-entries, len-entries, get-from_sorted, entries-from_sorted}
use Rattle.std.proofs.Math.Bool.{or-true}
use Rattle.std.proofs.lemmas.Option.{same_Some}
use Rattle.irc_names.specs.Lemmas.PlainFacts.{is_true}
use Rattle.irc_names.specs.Tables.{Table, row, each, fold_cmp}
use Rattle.irc_names.specs.TableLaws.{same_fold, same_table, row-each}
use Rattle.irc_tables.specs.FoldedRows.{table_of, IsInFoldedOrder}
use Rattle.irc_tables.specs.Lemmas.ChangedRows.{kept_rows, sorted_kept, find_kept, Changes}
use Rattle.irc_tables.specs.Lemmas.ChangedRows.{retained, retained-sorted, retained-table}
use Rattle.irc_tables.specs.Lemmas.OrderedEntries.{find-there, sorted-below}
use Rattle.irc_tables.specs.Lemmas.RowsAsTable.{entries-table_of}

pub held : (b : Bool) → b ≡ true → T b
held b h = subst T (sym h) tt

pub length-values : {X : Type 0} (table : Table X) → length (values table) ≡ len table
length-values table = length-map (entries table) (λ e. e.1) ∙ sym (len-entries table)

-- ---- the rows of a table, and the row at a name

found_passes : {X : Type 0} (p : X → Bool) (x : X) (v : X) (rest : Option X) (b more : Bool)
    → cond b (Some v) rest ≡ Some x → p x ≡ true → (rest ≡ Some x
    → more ≡ true)
    → (p v || more) ≡ true
found_passes p x v rest true more found passes later = ap (λ y. p y || more) (same_Some v x found)
    ∙ ap (λ b. b || more) passes
found_passes p x v rest false more found passes later = ap (λ m. p v || m) (later found)
    ∙ or-true (p v)

find_passes : {X : Type 0} (p : X → Bool) (q : List ℕ) (x : X) (es : List (List ℕ × X))
    → find fold_cmp q es ≡ Some x → p x ≡ true → list_any p (map (λ e. e.1) es) ≡ true
find_passes p q x [] found passes = cc
find_passes p q x (e ∷ es) found passes =
    found_passes p x e.1 (find fold_cmp q es) (same_fold q e.0)
    (list_any p (map (λ e. e.1) es)) found passes (λ later. find_passes p q x es later passes)

-- a row at a name is one of the rows
pub row_passes : {X : Type 0} (p : X → Bool) (table : Table X) (q : List ℕ) (x : X)
    → row table q ≡ Some x → p x ≡ true → list_any p (values table) ≡ true
row_passes p table q x there passes =
    find_passes p q x (entries table) (sym (get-entries table q) ∙ there) passes

-- a row that stands at some name and passes a test
pub record Stands {X : Type 0} (p : X → Bool) (table : Table X) : Type 0 where
  pub name : List ℕ
  pub value : X
  pub there : row table name ≡ Some value
  pub passes : p value ≡ true

stands_behind : {X : Type 0} (p : X → Bool) (table : Table X) (front back : List (List ℕ × X))
    → entries table ≡ front ++ back → list_any p (map (λ e. e.1) back) ≡ true → Stands p table
stands_behind p table front [] is any = cc
stands_behind p table front (e ∷ back) is any =
    elim (p e.1) as (λ b. p e.1 ≡ b → Stands p table) [
      | true ↦ λ passes. record {
        name = e.0;
        value = e.1;
        there = get-entries table e.0 ∙ ap (find fold_cmp e.0) is
            ∙ find-there nat_list_cmp_total e.0 e.1 front back
            (sorted-below nat_list_cmp_total e.0 e.1 front back
            (ap (is_sorted fold_cmp) (sym is) ∙ is_true _ (entries_sorted table)));
        passes = passes;
      }
      | false ↦ λ fails. stands_behind p table (front ++ e ∷ []) back
          (is ∙ sym (append_assoc front (e ∷ []) back))
          (sym (ap (λ b. b || list_any p (map (λ e. e.1) back)) fails) ∙ any)
    ] refl

-- one of the rows is the row at some name
pub some_stands : {X : Type 0} (p : X → Bool) (table : Table X) → list_any p (values table) ≡ true
    → Stands p table
some_stands p table any = stands_behind p table [] (entries table) refl any

-- ---- rows that stand under a part of them

module _ {X : Type 0} (name : X → List ℕ) where
  abbrev named : X → List ℕ × X
  named x = (name x, x)

  values_of_named : (rows : List X) → map (λ e. e.1) (map named rows) ≡ rows
  values_of_named [] = refl
  values_of_named (x ∷ rows) = ap (λ xs. x ∷ xs) (values_of_named rows)

  -- the rows of a table that is made of rows in order are these rows
  pub values-table_of : (rows : List X) → IsInFoldedOrder named rows
      → values (table_of named rows) ≡ rows
  values-table_of rows sorted = ap (map (λ e. e.1)) (entries-table_of named rows sorted)
      ∙ values_of_named rows

-- ---- rows that pass a test, in a list and in a table

module _ {X V : Type 0} (entry : X → List ℕ × V) (p : X → Bool) (g : V → Option V)
    (is : (x : X) → g (entry x).1 ≡ cond (p x) (Some ((entry x).1)) None) where
  abbrev Tests : Unit {0} → X → Bool → Unit {0} → X → Type 0
  Tests s x b t y = (b ≡ p x) × (y ≡ x)

  tests_change : (s : Unit {0}) (x : X) (b : Bool) (t : Unit {0}) (y : X) → Unit {0}
      → Tests s x b t y → Changes entry g (λ _. Unit {0}) x b t y
  tests_change s x b t y held tests = record {
    still = tt;
    named = ap (λ z. (entry z).0) tests.1;
    value = is x ∙ ap (λ b. cond b (Some ((entry x).1)) None) (sym tests.0)
        ∙ ap (λ z. cond b (Some ((entry z).1)) None) (sym tests.1);
  }

  in_turn : (xs : List X) → RetainsInTurn Tests tt xs (filter p xs)
  in_turn [] = refl
  in_turn (x ∷ xs) = (p x, tt, x, (refl, refl), filter p xs, in_turn xs, refl)

  pub filtered : (rows : List X) → map entry (filter p rows) ≡ kept_rows g (map entry rows)
  filtered rows =
      retained entry g (λ _. Unit {0}) Tests tests_change rows (filter p rows) tt tt (in_turn rows)

  pub filtered-sorted : (rows : List X) → IsInFoldedOrder entry rows
      → IsInFoldedOrder entry (filter p rows)
  filtered-sorted rows = retained-sorted entry g (λ _. Unit {0}) Tests tests_change rows
      (filter p rows) tt tt (in_turn rows)

  pub filtered-table : (rows : List X) → IsInFoldedOrder entry rows
      → table_of entry (filter p rows) ≡ each g (table_of entry rows)
  filtered-table rows = retained-table entry g (λ _. Unit {0}) Tests tests_change rows
      (filter p rows) tt tt (in_turn rows)

-- the entries of a table some of whose rows were taken out
module _ {X : Type 0} (p : X → Bool) (g : X → Option X)
    (is : (x : X) → g x ≡ cond (p x) (Some x) None) (table : Table X) where
  abbrev stays : List ℕ × X → Bool
  stays e = p e.1

  all_entries : (es : List (List ℕ × X)) → map (λ e. e) es ≡ es
  all_entries [] = refl
  all_entries (e ∷ es) = ap (λ more. e ∷ more) (all_entries es)

  kept_stay : filter stays (entries table) ≡ kept_rows g (entries table)
  kept_stay =
      sym (all_entries (filter stays (entries table)))
      ∙ filtered (λ (e : List ℕ × X). e) stays g (λ e. is e.1) (entries table)
      ∙ ap (kept_rows g) (all_entries (entries table))

  entries_each : entries (each g table) ≡ filter stays (entries table)
  entries_each =
      let in_order = sorted_kept g (entries table) (is_true _ (entries_sorted table)) in
      ap entries (same_table (each g table) (from_sorted (kept_rows g (entries table))) (λ q.
      row-each g table q
      ∙ ap (option_and_then g) (get-entries table q)
      ∙ sym (find_kept g q (entries table) (is_true _ (entries_sorted table)))
      ∙ sym (get-from_sorted fold_cmp (kept_rows g (entries table)) q (held _ in_order))))
      ∙ entries-from_sorted fold_cmp (kept_rows g (entries table)) (held _ in_order)
      ∙ sym kept_stay

  values_filtered : (es : List (List ℕ × X))
      → map (λ e. e.1) (filter stays es) ≡ filter p (map (λ e. e.1) es)
  values_filtered [] = refl
  values_filtered (e ∷ es) =
      by (p e.1) ∙ ap (λ more. cond (p e.1) (e.1 ∷ more) more) (values_filtered es)
    where
      by : (b : Bool)
          → map (λ e. e.1) (cond b (e ∷ filter stays es) (filter stays es))
          ≡ cond b (e.1 ∷ map (λ e. e.1) (filter stays es)) (map (λ e. e.1)
          (filter stays es))
      by true = refl
      by false = refl

  pub values_each : values (each g table) ≡ filter p (values table)
  values_each = ap (map (λ e. e.1)) entries_each ∙ values_filtered (entries table)

  pub length_each : length (values (each g table)) ≤ length (values table)
  length_each =
      let shorter = ap length values_each ∙ length-filter p (values table) in
      let le = count_by-le-length p (values table) in
      omega arith

-- ---- a list into which an element is put

pub map_insert : {X Y : Type 0} (f : X → Y) (xs : List X) (i : ℕ) (x : X)
    → map f (insert xs i x) ≡ insert (map f xs) i (f x)
map_insert {X} {Y} f xs i x = map-append f (take i xs) (x ∷ drop i xs)
    ∙ ap (λ front. front ++ f x ∷ map f (drop i xs)) (map_take i xs)
    ∙ ap (λ back. take i (map f xs) ++ f x ∷ back) (map_drop i xs)
  where
    map_take : (i : ℕ) (xs : List X) → map {A = X} {B = Y} f (take i xs) ≡ take i (map f xs)
    map_take zero xs = refl
    map_take (suc i) [] = refl
    map_take (suc i) (y ∷ xs) = ap (λ more. f y ∷ more) (map_take i xs)

    map_drop : (i : ℕ) (xs : List X) → map f (drop i xs) ≡ drop i (map f xs)
    map_drop zero xs = refl
    map_drop (suc i) [] = refl
    map_drop (suc i) (y ∷ xs) = map_drop i xs

-- the names in a list of borrowed names, into which one was put
pub put_told : {A E : Type 0} (names items : List (Bor (List ℕ))) (x : Bor (List ℕ)) (place : ℕ)
    (result : Result A E) (a : A) → items ≡ cond (is_ok result) (insert names place x) names
    → result ≡ Ok a → map (λ (name : Bor (List ℕ)). name.now) items
    ≡ insert (map (λ (name : Bor (List ℕ)). name.now) names) place x.now
put_told names items x place result a items_are done =
    ap (map (λ (name : Bor (List ℕ)). name.now))
    (items_are ∙ ap (λ b. cond b (insert names place x) names) (ap is_ok done))
    ∙ map_insert (λ (name : Bor (List ℕ)). name.now) names place x
