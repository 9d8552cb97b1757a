-- Words on tables: rows that are kept, one row changed twice, and the values of a table whose rows
-- are changed.
use Rattle.std.proofs.Common.{◌≡◌, ℕ, Bool, true, false, cond, Option, Some, None, List, [], ◌∷◌}
use Rattle.std.proofs.Common.{refl, sym, ◌∙◌, ap, map, filter, is_some, option_map}
use Rattle.std.proofs.Common.{filter_map}
use Rattle.std.proofs.lemmas.Bool.{and_parts, and_from}
use Rattle.std.specs.List.{cons_option, AllByRecursion}
use Rattle.std.specs.declared.cmp.Ordering.TheVariants.{Equal}
use Rattle.std.specs.Option.{option_and_then}
use Rattle.std.specs.Cmp.{IsTotalOrder}
use Rattle.std.specs.Cmp.Lexicographic.{nat_list_cmp_total}
use Rattle.std.specs.Ordering.{is_lt}
use Rattle.std.specs.FinMap.{entries, entries_sorted, values, retain_keys, find, is_sorted}
use Rattle.std.specs.FinMap.{get-entries, get-retain_keys, slice_cmp-IsAntisymmetric}
use Rattle.std.specs.FinMap.{nat_cmp-IsAntisymmetric}
use Rattle.std.specs.FinMap.Entries.{below_all, same_entries, is_sorted-where_key, find-where_key}
use Rattle.std.specs.Bool.{passes}
use Rattle.std.proofs.Math.Bool.{false≢true}
use Rattle.irc_names.specs.Lemmas.PlainFacts.{is_true}
use Rattle.irc_names.specs.Tables.{Table, fold_cmp, row, alter, each}
use Rattle.irc_names.specs.TableLaws.{same_fold, same_fold-refl, one_fold, same_table, row-alter}
use Rattle.irc_names.specs.TableLaws.{row-alter_same, row-each}
use Rattle.irc_tables.specs.Lemmas.OrderedEntries.{above-is, find-above}

pub order : IsTotalOrder fold_cmp
order = nat_list_cmp_total

pub row-kept : {X : Type 0} (table : Table X) (p : List ℕ → Bool) (q : List ℕ)
    → row (retain_keys table p) q ≡ cond (p q) (row table q) None
row-kept table p q = get-retain_keys table p q
    (λ x tie. ap p (sym (slice_cmp-IsAntisymmetric nat_cmp-IsAntisymmetric q x tie)))

-- one row is changed, and changed again
pub alter_twice : {X : Type 0} (fold : List ℕ)
    (first second : Option X → Option X) (table : Table X)
    → alter fold second (alter fold first table) ≡ alter fold (λ x. second (first x)) table
alter_twice {X} fold first second table = same_table (alter fold second (alter fold first table))
    (alter fold (λ x. second (first x)) table) (λ q.
    row-alter fold second (alter fold first table) q
    ∙ ap (λ o. cond (same_fold q fold) (second o) (row (alter fold first table) q))
    (row-alter_same fold first table)
    ∙ ap (cond (same_fold q fold) (second (first (row table fold)))) (row-alter fold first table q)
    ∙ by_fold (same_fold q fold) (second (first (row table fold))) (first (row table fold))
    (row table q)
    ∙ sym (row-alter fold (λ x. second (first x)) table q))
  where
    by_fold : (b : Bool) (x y z : Option X) → cond b x (cond b y z) ≡ cond b x z
    by_fold true x y z = refl
    by_fold false x y z = refl

-- an entry below all others is none of them
pub absent : {X : Type 0} (x : List ℕ) (es : List (List ℕ × X)) → below_all fold_cmp x es ≡ true
    → find fold_cmp x es ≡ None
absent x es below = find-above order x es (sym (above-is order x es) ∙ below)

-- ---- the entries and the values of a table whose rows are changed

abbrev changed_entry : {X Y : Type 0} → (X → Option Y) → List ℕ × X → Option (List ℕ × Y)
changed_entry change e = option_map (λ y. (e.0, y)) (change e.1)

find_changed : {X Y : Type 0} (change : X → Option Y) (q : List ℕ) (es : List (List ℕ × X))
    → is_sorted fold_cmp es ≡ true → find fold_cmp q (filter_map (changed_entry change) es)
    ≡ option_and_then change (find fold_cmp q es)
find_changed change q [] rise = refl
find_changed {X} {Y} change q (e ∷ es) rise =
    let parts = and_parts _ _ rise in
    by_change (change e.1) refl (same_fold q e.0) refl parts.0 (find_changed change q es parts.1)
  where
    by_change : (o : Option Y) → change e.1 ≡ o → (b : Bool) → same_fold q e.0 ≡ b
        → below_all fold_cmp e.0 es ≡ true → find fold_cmp q (filter_map (changed_entry change) es)
        ≡ option_and_then change (find fold_cmp q es) → find fold_cmp q
        (cons_option (option_map (λ y. (e.0, y)) o) (filter_map (changed_entry change) es))
        ≡ option_and_then change (cond b (Some e.1) (find fold_cmp q es))
    by_change None is true one below rest =
        rest ∙ ap (option_and_then change) (ap (λ f. find fold_cmp f es) (one_fold q e.0 one)
        ∙ absent e.0 es below) ∙ sym is
    by_change None is false two below rest = rest
    by_change (Some y) is true one below rest = ap
        (λ b. cond b (Some y) (find fold_cmp q (filter_map (changed_entry change) es))) one ∙ sym is
    by_change (Some y) is false two below rest = ap
        (λ b. cond b (Some y) (find fold_cmp q (filter_map (changed_entry change) es))) two ∙ rest

below_changed : {X Y : Type 0} (change : X → Option Y) (x : List ℕ)
    (es : List (List ℕ × X)) → below_all fold_cmp x es ≡ true
    → below_all fold_cmp x (filter_map (changed_entry change) es) ≡ true
below_changed change x [] below = refl
below_changed {X} {Y} change x (e ∷ es) below =
    let parts = and_parts _ _ below in
    by_change (change e.1) parts.0 (below_changed change x es parts.1)
  where
    by_change : (o : Option Y) → is_lt (fold_cmp x e.0) ≡ true
        → below_all fold_cmp x (filter_map (changed_entry change) es) ≡ true → below_all fold_cmp x
        (cons_option (option_map (λ y. (e.0, y)) o) (filter_map (changed_entry change) es)) ≡ true
    by_change None lt rest = rest
    by_change (Some y) lt rest = and_from _ _ lt rest

sorted_changed : {X Y : Type 0} (change : X → Option Y) (es : List (List ℕ × X))
    → is_sorted fold_cmp es ≡ true
    → is_sorted fold_cmp (filter_map (changed_entry change) es) ≡ true
sorted_changed change [] rise = refl
sorted_changed {X} {Y} change (e ∷ es) rise =
    let parts = and_parts _ _ rise in
    by_change (change e.1) parts.0 (sorted_changed change es parts.1)
  where
    by_change : (o : Option Y) → below_all fold_cmp e.0 es ≡ true
        → is_sorted fold_cmp (filter_map (changed_entry change) es) ≡ true → is_sorted fold_cmp
        (cons_option (option_map (λ y. (e.0, y)) o) (filter_map (changed_entry change) es)) ≡ true
    by_change None below rest = rest
    by_change (Some y) below rest = and_from _ _ (below_changed change e.0 es below) rest

pub entries_each : {X Y : Type 0} (change : X → Option Y) (table : Table X)
    → entries (each change table) ≡ filter_map (changed_entry change) (entries table)
entries_each change table =
    let rise = is_true _ (entries_sorted table) in
    same_entries fold_cmp order (slice_cmp-IsAntisymmetric nat_cmp-IsAntisymmetric)
    (entries (each change table)) (filter_map (changed_entry change) (entries table))
    (entries_sorted (each change table)) (passes _ (sorted_changed change (entries table) rise))
    (λ q. sym (get-entries (each change table) q) ∙ row-each change table q
    ∙ ap (option_and_then change) (get-entries table q)
    ∙ sym (find_changed change q (entries table) rise))

values_changed : {X Y : Type 0} (change : X → Option Y) (es : List (List ℕ × X))
    → map (λ e. e.1) (filter_map (changed_entry change) es) ≡ filter_map change (map (λ e. e.1) es)
values_changed change [] = refl
values_changed {X} {Y} change (e ∷ es) = by_change (change e.1) (values_changed change es)
  where
    by_change : (o : Option Y) → map (λ e. e.1) (filter_map (changed_entry change) es)
        ≡ filter_map change (map (λ e. e.1) es) → map (λ e. e.1)
        (cons_option (option_map (λ y. (e.0, y)) o) (filter_map (changed_entry change) es))
        ≡ cons_option o (filter_map change (map (λ e. e.1) es))
    by_change None rest = rest
    by_change (Some y) rest = ap (λ ys. y ∷ ys) rest

pub values_each : {X Y : Type 0} (change : X → Option Y) (table : Table X)
    → values (each change table) ≡ filter_map change (values table)
values_each change table =
    ap (map (λ e. e.1)) (entries_each change table) ∙ values_changed change (entries table)

-- the entries that are kept by their folds
pub entries_kept : {X : Type 0} (table : Table X) (p : List ℕ → Bool)
    → entries (retain_keys table p) ≡ filter (λ e. p e.0) (entries table)
entries_kept table p =
    let alike : (q x : List ℕ) → fold_cmp q x ≡ Equal → p x ≡ p q =
    λ q x tie. ap p (sym (slice_cmp-IsAntisymmetric nat_cmp-IsAntisymmetric q x tie)) in
    same_entries fold_cmp order (slice_cmp-IsAntisymmetric nat_cmp-IsAntisymmetric)
    (entries (retain_keys table p)) (filter (λ e. p e.0) (entries table))
    (entries_sorted (retain_keys table p))
    (is_sorted-where_key fold_cmp p (entries table) (entries_sorted table))
    (λ q. sym (get-entries (retain_keys table p) q) ∙ row-kept table p q
    ∙ ap (λ o. cond (p q) o None) (get-entries table q)
    ∙ sym (find-where_key fold_cmp p q (alike q) (entries table)))

-- the first entry is found
pub first_there : {X : Type 0} (e : List ℕ × X) (es : List (List ℕ × X))
    → is_some (find fold_cmp e.0 (e ∷ es)) ≡ true
first_there e es = ap (λ b. is_some (cond b (Some e.1) (find fold_cmp e.0 es))) (same_fold-refl e.0)

-- who is found behind an entry is not that entry
pub above_first : {X : Type 0} (q : List ℕ) (e : List ℕ × X) (es : List (List ℕ × X))
    → below_all fold_cmp e.0 es ≡ true → is_some (find fold_cmp q es) ≡ true
    → same_fold q e.0 ≡ false
above_first {X} q e es below there = by_fold (same_fold q e.0) refl
  where
    by_fold : (b : Bool) → same_fold q e.0 ≡ b → b ≡ false
    by_fold true one =
        absurd (false≢true (sym (ap is_some (ap (λ f. find fold_cmp f es) (one_fold q e.0 one)
        ∙ absent e.0 es below)) ∙ there))
    by_fold false two = refl

-- what holds of all that is found, holds of each entry
pub entries_all : {X : Type 0} (P : List ℕ → X → Type 0) (es : List (List ℕ × X))
    → ((q : List ℕ) (x : X) → find fold_cmp q es ≡ Some x → P q x) → is_sorted fold_cmp es ≡ true
    → AllByRecursion (λ e. P e.0 e.1) es
entries_all P [] so rise = tt
entries_all P (e ∷ es) so rise =
    let parts = and_parts _ _ rise in (
      so e.0 e.1 (ap (λ b. cond b (Some e.1) (find fold_cmp e.0 es)) (same_fold-refl e.0)),
      entries_all P es (λ q x is. so q x (ap (λ b. cond b (Some e.1) (find fold_cmp q es))
          (above_first q e es parts.0 (ap is_some is)) ∙ is)) parts.1,
    )
