-- Tables that are made of lists of entries, so that what stands in them computes.
use Rattle.std.proofs.Common.{◌≡◌, ℕ, Bool, true, false, cond, not, T, Option, Some, None, List, []}
use Rattle.std.proofs.Common.{◌∷◌, refl, sym, ◌∙◌, ap, is_some, map, option_map}
use Rattle.std.specs.Cmp.{eq_by_cmp_equiv}
use Rattle.std.specs.Cmp.Lexicographic.{nat_list_cmp_total}
use Rattle.std.specs.Option.{option_and_then}
use Rattle.std.specs.FinMap.{from_entries, from_sorted, entries, keys, get-from_entries}
use Rattle.std.specs.FinMap.{get-from_sorted, entries-from_sorted, slice_cmp-IsAntisymmetric}
use Rattle.std.specs.FinMap.{nat_cmp-IsAntisymmetric}
use Rattle.std.specs.FinMap.Entries.{find, put, where_key, is_sorted, find-put, find-where_key}
use Rattle.std.proofs.lemmas.Iterator.Adapters.{option_map_id}
use Rattle.irc_names.specs.Tables.{Table, fold_cmp, row, alter, each, moved}
use Rattle.irc_names.specs.TableLaws.{same_fold, same_fold-refl, row-alter, row-each, row-moved}
use Rattle.irc_names.specs.TableLaws.{row-moved_none, same_table}
use Rattle.irc_modes.specs.Modes.{is_nil}
use Rattle.irc_effects.specs.Lemmas.Rows.{some_key, no_row}

-- the table with these entries, each by a map of its value
abbrev pub table_of : {X Y : Type 0} → (X → Y) → List (List ℕ × X) → Table Y
table_of f es = from_entries (map (λ e. (e.0, f e.1)) es)

find_mapped : {X Y : Type 0} (f : X → Y) (q : List ℕ) (es : List (List ℕ × X))
    → find fold_cmp q (map (λ e. (e.0, f e.1)) es) ≡ option_map f (find fold_cmp q es)
find_mapped f q [] = refl
find_mapped f q (e ∷ es) = by_fold (same_fold q e.0) (find_mapped f q es)
  where
    by_fold : (b : Bool) → find fold_cmp q (map (λ e. (e.0, f e.1)) es) ≡ option_map f
        (find fold_cmp q es) → cond b (Some (f e.1)) (find fold_cmp q (map (λ e. (e.0, f e.1)) es))
        ≡ option_map f (cond b (Some e.1) (find fold_cmp q es))
    by_fold true rest = refl
    by_fold false rest = rest

pub row_listed : {X Y : Type 0} (f : X → Y) (es : List (List ℕ × X)) (q : List ℕ)
    → row (table_of f es) q ≡ option_map f (find fold_cmp q es)
row_listed f es q =
    get-from_entries nat_list_cmp_total (map (λ e. (e.0, f e.1)) es) q ∙ find_mapped f q es

-- entries without the one at a fold
abbrev without_entry : {X : Type 0} → List ℕ → List (List ℕ × X) → List (List ℕ × X)
without_entry fold = where_key fold_cmp (λ x. not (same_fold fold x))

find_without : {X : Type 0} (fold q : List ℕ) (es : List (List ℕ × X))
    → find fold_cmp q (without_entry fold es) ≡ cond (same_fold q fold) None (find fold_cmp q es)
find_without fold q es =
    find-where_key fold_cmp (λ x. not (same_fold fold x)) q
    (λ x tie. ap (λ y. not (same_fold fold y))
    (sym (slice_cmp-IsAntisymmetric nat_cmp-IsAntisymmetric q x tie))) es
    ∙ ap (λ b. cond (not b) (find fold_cmp q es) None)
    ((eq_by_cmp_equiv nat_list_cmp_total).symm fold q)
    ∙ turned (same_fold q fold)
  where
    turned : (b : Bool) → cond (not b) (find fold_cmp q es) None ≡ cond b None (find fold_cmp q es)
    turned true = refl
    turned false = refl

abbrev put_entry : {X : Type 0} → List ℕ → Option X → List (List ℕ × X) → List (List ℕ × X)
put_entry fold None es = without_entry fold es
put_entry fold (Some x) es = put fold_cmp fold x es

find_put : {X : Type 0} (fold q : List ℕ) (new : Option X) (es : List (List ℕ × X))
    → find fold_cmp q (put_entry fold new es) ≡ cond (same_fold q fold) new (find fold_cmp q es)
find_put fold q None es = find_without fold q es
find_put fold q (Some x) es = find-put fold_cmp nat_list_cmp_total q fold x es

over_cond : {X Y : Type 0} (f : X → Y) (b : Bool) (x y : Option X)
    → option_map f (cond b x y) ≡ cond b (option_map f x) (option_map f y)
over_cond f true x y = refl
over_cond f false x y = refl

-- one entry is made, changed or taken out
abbrev pub alter_entry : {X : Type 0} → List ℕ → (Option X → Option X) → List (List ℕ × X)
    → List (List ℕ × X)
alter_entry fold change es = put_entry fold (change (find fold_cmp fold es)) es

pub alter_listed : {X Y : Type 0} (f : X → Y) (fold : List ℕ)
    (change : Option Y → Option Y) (here : Option X → Option X) (es : List (List ℕ × X))
    → ((o : Option X) → change (option_map f o) ≡ option_map f (here o))
    → alter fold change (table_of f es) ≡ table_of f (alter_entry fold here es)
alter_listed f fold change here es alike = same_table _ _ (λ q.
    row-alter fold change (table_of f es) q
    ∙ (λ i. cond (same_fold q fold) (change (row_listed f es fold i)) (row_listed f es q i))
    ∙ ap (λ o. cond (same_fold q fold) o (option_map f (find fold_cmp q es)))
    (alike (find fold_cmp fold es))
    ∙ sym (row_listed f (alter_entry fold here es) q
    ∙ ap (option_map f) (find_put fold q (here (find fold_cmp fold es)) es)
    ∙ over_cond f (same_fold q fold) (here (find fold_cmp fold es)) (find fold_cmp q es)))

abbrev each_put : {X : Type 0} → List ℕ → Option X → List (List ℕ × X) → List (List ℕ × X)
each_put fold None es = without_entry fold es
each_put fold (Some x) es = (fold, x) ∷ es

-- every entry is changed, or taken out
abbrev pub each_entry : {X : Type 0} → (X → Option X) → List (List ℕ × X) → List (List ℕ × X)
each_entry change [] = []
each_entry change (e ∷ es) = each_put e.0 (change e.1) (each_entry change es)

find_each : {X : Type 0} (change : X → Option X) (q : List ℕ) (es : List (List ℕ × X))
    → find fold_cmp q (each_entry change es) ≡ option_and_then change (find fold_cmp q es)
find_each change q [] = refl
find_each change q (e ∷ es) =
    by_new (change e.1)
    ∙ ap (cond (same_fold q e.0) (change e.1)) (find_each change q es)
    ∙ by_fold (same_fold q e.0)
  where
    by_new : (o : _) → find fold_cmp q (each_put e.0 o (each_entry change es))
        ≡ cond (same_fold q e.0) o (find fold_cmp q (each_entry change es))
    by_new None = find_without e.0 q (each_entry change es)
    by_new (Some x) = refl

    by_fold : (b : Bool)
        → cond b (change e.1) (option_and_then change (find fold_cmp q es))
        ≡ option_and_then change (cond b (Some e.1) (find fold_cmp q es))
    by_fold true = refl
    by_fold false = refl

pub each_listed : {X Y : Type 0} (f : X → Y) (change : Y → Option Y) (here : X → Option X)
    (es : List (List ℕ × X)) → ((x : X) → change (f x) ≡ option_map f (here x))
    → each change (table_of f es) ≡ table_of f (each_entry here es)
each_listed {X} f change here es alike = same_table _ _ (λ q.
    row-each change (table_of f es) q ∙ ap (option_and_then change) (row_listed f es q)
    ∙ by_row (find fold_cmp q es)
    ∙ sym (row_listed f (each_entry here es) q ∙ ap (option_map f) (find_each here q es)))
  where
    by_row : (o : Option X)
        → option_and_then change (option_map f o) ≡ option_map f (option_and_then here o)
    by_row None = refl
    by_row (Some x) = alike x

abbrev move_row : {X : Type 0} → Option X → List ℕ → List ℕ → (X → X) → List (List ℕ × X)
    → List (List ℕ × X)
move_row None old new change es = es
move_row (Some x) old new change es = put_entry new (Some (change x)) (without_entry old es)

-- the entry at one fold is put at another
abbrev pub move_entry : {X : Type 0} → List ℕ → List ℕ → (X → X) → List (List ℕ × X)
    → List (List ℕ × X)
move_entry old new change es = move_row (find fold_cmp old es) old new change es

pub moved_listed : {X : Type 0} (old new : List ℕ) (change : X → X) (es : List (List ℕ × X))
    → moved old new change (table_of (λ x. x) es) ≡ table_of (λ x. x) (move_entry old new change es)
moved_listed {X} old new change es = same_table _ _ (λ q. by_row q (find fold_cmp old es) refl)
  where
    plain : (es : List (List ℕ × X)) (q : List ℕ)
        → row (table_of (λ x. x) es) q ≡ find fold_cmp q es
    plain es q = row_listed (λ x. x) es q ∙ option_map_id (find fold_cmp q es)

    by_row : (q : List ℕ) (o : Option X) → find fold_cmp old es ≡ o → row (moved old new change
        (table_of (λ x. x) es)) q ≡ row (table_of (λ x. x) (move_row o old new change es)) q
    by_row q None is = row-moved_none old new change (table_of (λ x. x) es) (plain es old ∙ is) q
    by_row q (Some x) is =
        row-moved old new change (table_of (λ x. x) es) x (plain es old ∙ is) q
        ∙ ap (λ o. cond (same_fold q new) (Some (change x)) (cond (same_fold q old) None o))
        (plain es q)
        ∙ sym (plain (put_entry new (Some (change x)) (without_entry old es)) q
        ∙ find_put new q (Some (change x)) (without_entry old es)
        ∙ ap (cond (same_fold q new) (Some (change x))) (find_without old q es))

-- such a table has a key where the list has an entry
pub keys_listed : {X Y : Type 0} (f : X → Y) (es : List (List ℕ × X))
    → is_nil (keys (table_of f es)) ≡ is_nil es
keys_listed f [] = no_row (table_of f []) (λ q. row_listed f [] q)
keys_listed f (e ∷ es) = some_key (table_of f (e ∷ es)) e.0
    (ap is_some (row_listed f (e ∷ es) e.0 ∙ ap
    (λ b. option_map f (cond b (Some e.1) (find fold_cmp e.0 es))) (same_fold-refl e.0)))

-- and a list in order is its entries
pub entries_listed : {X Y : Type 0} (f : X → Y) (es : List (List ℕ × X))
    → T (is_sorted fold_cmp (map (λ e. (e.0, f e.1)) es))
    → entries (table_of f es) ≡ map (λ e. (e.0, f e.1)) es
entries_listed f es rise =
    ap entries (same_table (table_of f es) (from_sorted (map (λ e. (e.0, f e.1)) es))
    (λ q. get-from_entries nat_list_cmp_total (map (λ e. (e.0, f e.1)) es) q
    ∙ sym (get-from_sorted fold_cmp (map (λ e. (e.0, f e.1)) es) q rise)))
    ∙ entries-from_sorted fold_cmp (map (λ e. (e.0, f e.1)) es) rise
