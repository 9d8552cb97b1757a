-- What each table answers at a fold; two tables that answer alike are one.
use Rattle.std.proofs.Common.{◌≡◌, ℕ, Bool, true, false, cond, ◌&&◌, ◌||◌, T, Option, Some, None}
use Rattle.std.proofs.Common.{List, [], ◌∷◌, ◌++◌, refl, sym, ◌∙◌, ap, subst, is_some, map}
use Rattle.std.specs.List.{list_any}
use Rattle.std.specs.Option.{option_and_then}
use Rattle.std.specs.Ordering.{eq_by_cmp, is_lt}
use Rattle.std.specs.Cmp.{Equal-is, eq_by_cmp_equiv}
use Rattle.std.specs.Cmp.Lexicographic.{nat_list_cmp_total}
use Rattle.std.specs.FinMap.{empty, keys, values, entries, entries_sorted, find, is_sorted}
use Rattle.std.specs.FinMap.{from_sorted, retain_keys, get-empty, get-insert, get-remove}
use Rattle.std.specs.FinMap.{get-entries, get-from_sorted, get-retain_keys, entries-from_sorted}
use Rattle.std.specs.FinMap.{same_map, slice_cmp-IsAntisymmetric, nat_cmp-IsAntisymmetric}
use Rattle.std.specs.FinMap.{contains_key-keys}
use Rattle.std.specs.FinMap.Entries.{below_all}
use Rattle.std.proofs.lemmas.List.Folds.{list_any-append}
use Rattle.irc_names.specs.Tables.{fold_cmp, Table, row, put, alter, tabulate, each, both, moved}
use Rattle.irc_names.specs.Tables.{put_row}

-- whether two folds are one
abbrev pub same_fold : List ℕ → List ℕ → Bool
same_fold = eq_by_cmp fold_cmp

pub row-put : {X : Type 0} (table : Table X) (fold : List ℕ) (new : Option X) (q : List ℕ)
    → row (put table fold new) q ≡ (cond (same_fold q fold) new (row table q))
row-put table fold None q = get-remove nat_list_cmp_total table fold q
row-put table fold (Some x) q = get-insert nat_list_cmp_total table fold x q

-- tables that answer alike are one
pub same_table : {X : Type 0} (a b : Table X) → ((q : List ℕ) → row a q ≡ row b q) → a ≡ b
same_table a b alike =
    same_map nat_list_cmp_total (slice_cmp-IsAntisymmetric nat_cmp-IsAntisymmetric) a b alike

-- what the test tells: one fold, or two
pub one_fold : (q fold : List ℕ) → same_fold q fold ≡ true → q ≡ fold
one_fold q fold same =
    slice_cmp-IsAntisymmetric nat_cmp-IsAntisymmetric q fold ((Equal-is (fold_cmp q fold)).0 same)

pub same_fold-refl : (fold : List ℕ) → same_fold fold fold ≡ true
same_fold-refl fold = (eq_by_cmp_equiv nat_list_cmp_total).refl fold

either_row : {X : Type 0} (b c : Bool) (x y z : Option X) → (b ≡ true → x ≡ y)
    → cond b x (cond c y z) ≡ cond (b || c) y z
either_row true c x y z same = same refl
either_row false c x y z same = refl

pub row-alter : {X : Type 0} (fold : List ℕ) (change : Option X → Option X) (table : Table X)
    (q : List ℕ) → row (alter fold change table) q ≡ cond (same_fold q fold)
    (change (row table fold)) (row table q)
unfolding alter
row-alter fold change table q = row-put table fold (change (row table fold)) q

pub row-tabulate : {X : Type 0} (folds : List (List ℕ)) (rows : List ℕ → Option X) (q : List ℕ)
    → row (tabulate folds rows) q ≡ cond (list_any (same_fold q) folds) (rows q) None
row-tabulate [] rows q = get-empty fold_cmp q
row-tabulate (fold ∷ folds) rows q =
    row-put (tabulate folds rows) fold (rows fold) q
    ∙ ap (cond (same_fold q fold) (rows fold)) (row-tabulate folds rows q)
    ∙ either_row (same_fold q fold) (list_any (same_fold q) folds) (rows fold) (rows q) None
    (λ same. ap rows (sym (one_fold q fold same)))

-- a table has a row just at its keys
pub row-keys : {X : Type 0} (table : Table X) (q : List ℕ)
    → list_any (same_fold q) (keys table) ≡ is_some (row table q)
row-keys table q = sym (contains_key-keys table q)

cond_some : {X Y : Type 0} (change : X → Option Y) (o : Option X)
    → cond (is_some o) (option_and_then change o) None ≡ option_and_then change o
cond_some change None = refl
cond_some change (Some x) = refl

pub row-each : {X Y : Type 0} (change : X → Option Y) (table : Table X) (q : List ℕ)
    → row (each change table) q ≡ option_and_then change (row table q)
unfolding each
row-each change table q =
    row-tabulate (keys table) (λ fold. option_and_then change (row table fold)) q
    ∙ ap (λ b. cond b (option_and_then change (row table q)) None) (row-keys table q)
    ∙ cond_some change (row table q)

cond_both : {X Y Z : Type 0} (join : Option X → Option Y → Option Z) (a : Option X) (b : Option Y)
    → join None None ≡ None → cond (is_some a || is_some b) (join a b) None ≡ join a b
cond_both join None None none = sym none
cond_both join None (Some y) none = refl
cond_both join (Some x) b none = refl

pub row-both : {X Y Z : Type 0} (join : Option X → Option Y → Option Z)
    (one : Table X) (other : Table Y) → join None None ≡ None → (q : List ℕ)
    → row (both join one other) q ≡ join (row one q) (row other q)
unfolding both
row-both join one other none q =
    row-tabulate (keys one ++ keys other) (λ fold. join (row one fold) (row other fold)) q
    ∙ ap (λ b. cond b (join (row one q) (row other q)) None)
    (list_any-append (same_fold q) (keys one) (keys other)
    ∙ ap (λ b. b || list_any (same_fold q) (keys other)) (row-keys one q)
    ∙ ap (λ b. is_some (row one q) || b) (row-keys other q))
    ∙ cond_both join (row one q) (row other q) none

-- a row that is changed into itself
pub row-alter_same : {X : Type 0} (fold : List ℕ) (change : Option X → Option X) (table : Table X)
    → row (alter fold change table) fold ≡ change (row table fold)
row-alter_same fold change table =
    row-alter fold change table fold
    ∙ ap (λ b. cond b (change (row table fold)) (row table fold)) (same_fold-refl fold)

pub row-alter_other : {X : Type 0} (fold : List ℕ) (change : Option X → Option X) (table : Table X)
    (q : List ℕ) → same_fold q fold ≡ false → row (alter fold change table) q ≡ row table q
row-alter_other fold change table q other =
    row-alter fold change table q ∙ ap (λ b. cond b (change (row table fold)) (row table q)) other

-- a row that is put elsewhere
pub row-moved : {X : Type 0} (old new : List ℕ) (change : X → X) (table : Table X) (x : X)
    → row table old ≡ Some x → (q : List ℕ) → row (moved old new change table) q
    ≡ cond (same_fold q new) (Some (change x)) (cond (same_fold q old) None (row table q))
unfolding moved
row-moved old new change table x is q =
    let rest = alter old (λ _. None) table in
    ap (λ o. row (put_row o new change rest) q) is
    ∙ row-alter new (λ _. Some (change x)) rest q
    ∙ ap (cond (same_fold q new) (Some (change x))) (row-alter old (λ _. None) table q)

-- where there is no row, none is put elsewhere
pub row-moved_none : {X : Type 0} (old new : List ℕ) (change : X → X) (table : Table X)
    → row table old ≡ None → (q : List ℕ) → row (moved old new change table) q ≡ row table q
unfolding moved
row-moved_none old new change table is q =
    ap (λ o. row (put_row o new change (alter old (λ _. None) table)) q) is
    ∙ row-alter old (λ _. None) table q
    ∙ none_stays (same_fold q old) refl
  where
    none_stays : (b : Bool) → same_fold q old ≡ b → cond b None (row table q) ≡ row table q
    none_stays true same = sym (ap (row table) (one_fold q old same) ∙ is)
    none_stays false other = refl

-- ---- changes one after another

-- Two changes of every row make one table of two that are other changes of every row, where they
-- agree on each row that is there.
pub each-turned : {X Y Z W : Type 0} (g : Y → Option W) (f : X → Option Y)
    (k : Z → Option W) (h : X → Option Z) (table : Table X) → ((q : List ℕ) (x : X)
    → row table q ≡ Some x → option_and_then g (f x) ≡ option_and_then k (h x))
    → each g (each f table) ≡ each k (each h table)
each-turned {X} g f k h table agree =
    same_table (each g (each f table)) (each k (each h table)) (λ q.
    row-each g (each f table) q ∙ ap (option_and_then g) (row-each f table q)
    ∙ by_row q (row table q) refl
    ∙ sym (row-each k (each h table) q ∙ ap (option_and_then k) (row-each h table q)))
  where
    by_row : (q : List ℕ) (o : Option X) → row table q ≡ o
        → option_and_then g (option_and_then f o) ≡ option_and_then k (option_and_then h o)
    by_row q None at = refl
    by_row q (Some x) at = agree q x at

-- two changes that agree on each row that is there
pub each-alike : {X Y : Type 0} (f g : X → Option Y) (table : Table X)
    → ((q : List ℕ) (x : X) → row table q ≡ Some x → f x ≡ g x) → each f table ≡ each g table
each-alike {X} f g table agree = same_table (each f table) (each g table) (λ q.
    row-each f table q ∙ by_row q (row table q) refl ∙ sym (row-each g table q))
  where
    by_row : (q : List ℕ) (o : Option X) → row table q ≡ o
        → option_and_then f o ≡ option_and_then g o
    by_row q None at = refl
    by_row q (Some x) at = agree q x at

-- every row is changed, and one row before that or after it
pub each-alter : {X Y : Type 0} (f : X → Option Y) (fold : List ℕ)
    (one : Option X → Option X) (other : Option Y → Option Y) (table : Table X)
    → option_and_then f (one (row table fold)) ≡ other (option_and_then f (row table fold))
    → each f (alter fold one table) ≡ alter fold other (each f table)
each-alter f fold one other table turned =
    same_table (each f (alter fold one table)) (alter fold other (each f table)) (λ q.
    row-each f (alter fold one table) q
    ∙ ap (option_and_then f) (row-alter fold one table q)
    ∙ by_fold q (same_fold q fold)
    ∙ sym (row-alter fold other (each f table) q ∙ (λ i. cond (same_fold q fold)
    (other (row-each f table fold i)) (row-each f table q i))))
  where
    by_fold : (q : List ℕ) (b : Bool)
        → option_and_then f (cond b (one (row table fold)) (row table q))
        ≡ cond b (other (option_and_then f (row table fold))) (option_and_then f (row table q))
    by_fold q true = turned
    by_fold q false = refl

-- ---- the rows at some folds alone

pub row-retain_keys : {X : Type 0} (table : Table X) (stays : List ℕ → Bool) (q : List ℕ)
    → row (retain_keys table stays) q ≡ cond (stays q) (row table q) None
row-retain_keys table stays q = get-retain_keys table stays q
    (λ x tie. ap stays (sym (slice_cmp-IsAntisymmetric nat_cmp-IsAntisymmetric q x tie)))

-- of no rows none stays
pub retain_keys-empty : {X : Type 0} (stays : List ℕ → Bool)
    → retain_keys {X = X} {R = fold_cmp} empty stays ≡ empty
retain_keys-empty {X} stays = same_table {X = X} (retain_keys empty stays) empty (λ q.
    row-retain_keys {X = X} empty stays q ∙ ap (λ o. cond (stays q) o None) (get-empty fold_cmp q)
    ∙ by_test (stays q) ∙ sym (get-empty fold_cmp q))
  where
    by_test : (b : Bool) → ◌≡◌ {A = Option X} (cond b None None) None
    by_test true = refl
    by_test false = refl

-- two tests that agree where there is a row
pub retain_keys-alike : {X : Type 0} (table : Table X) (one other : List ℕ → Bool)
    → ((q : List ℕ) → is_some (row table q) ≡ true → one q ≡ other q)
    → retain_keys table one ≡ retain_keys table other
retain_keys-alike {X} table one other agree =
    same_table (retain_keys table one) (retain_keys table other) (λ q.
    row-retain_keys table one q ∙ by_row q (row table q) refl ∙ sym (row-retain_keys table other q))
  where
    none : (b c : Bool) → ◌≡◌ {A = Option X} (cond b None None) (cond c None None)
    none true true = refl
    none true false = refl
    none false true = refl
    none false false = refl

    by_row : (q : List ℕ) (o : Option X) → row table q ≡ o
        → cond (one q) o None ≡ cond (other q) o None
    by_row q None at = none (one q) (other q)
    by_row q (Some x) at = ap (λ b. cond b (Some x) None) (agree q (ap is_some at))

-- one row is changed, before or after, where the two tests agree on every other row that is there
pub retain_keys-alter : {X : Type 0} (before after : List ℕ → Bool) (fold : List ℕ)
    (one other : Option X → Option X) (table : Table X) → cond (after fold)
    (one (row table fold)) None ≡ other (cond (before fold) (row table fold) None)
    → ((q : List ℕ) → same_fold q fold ≡ false → after q ≡ before q)
    → retain_keys (alter fold one table) after ≡ alter fold other (retain_keys table before)
retain_keys-alter before after fold one other table here elsewhere = same_table
    (retain_keys (alter fold one table) after) (alter fold other (retain_keys table before)) (λ q.
    row-retain_keys (alter fold one table) after q
    ∙ ap (λ o. cond (after q) o None) (row-alter fold one table q)
    ∙ by_fold q (same_fold q fold) refl
    ∙ sym (row-alter fold other (retain_keys table before) q
    ∙ (λ i. cond (same_fold q fold) (other (row-retain_keys table before fold i))
    (row-retain_keys table before q i))))
  where
    by_fold : (q : List ℕ) (b : Bool) → same_fold q fold ≡ b
        → cond (after q) (cond b (one (row table fold)) (row table q)) None ≡ cond b
        (other (cond (before fold) (row table fold) None)) (cond (before q) (row table q) None)
    by_fold q true same =
        ap (λ f. cond (after f) (one (row table fold)) None) (one_fold q fold same) ∙ here
    by_fold q false apart = ap (λ b. cond b (row table q) None) (elsewhere q apart)

-- ---- the rows of a table in order, when each is changed and none taken out

module _ {X Y : Type 0} (change : X → Y) where
  abbrev pub changed_entry : List ℕ × X → List ℕ × Y
  changed_entry e = (e.0, change e.1)

  below_changed : (q : List ℕ) (es : List (List ℕ × X))
      → below_all fold_cmp q (map changed_entry es) ≡ below_all fold_cmp q es
  below_changed q [] = refl
  below_changed q (e ∷ es) = ap (λ b. is_lt (fold_cmp q e.0) && b) (below_changed q es)

  sorted_changed : (es : List (List ℕ × X))
      → is_sorted fold_cmp (map changed_entry es) ≡ is_sorted fold_cmp es
  sorted_changed [] = refl
  sorted_changed (e ∷ es) = λ i. below_changed e.0 es i && sorted_changed es i

  find_changed : (q : List ℕ) (es : List (List ℕ × X)) → find fold_cmp q (map changed_entry es)
      ≡ option_and_then (λ x. Some (change x)) (find fold_cmp q es)
  find_changed q [] = refl
  find_changed q (e ∷ es) = by_fold (find_changed q es) (same_fold q e.0)
    where
      by_fold : find fold_cmp q (map changed_entry es)
          ≡ option_and_then (λ x. Some (change x)) (find fold_cmp q es) → (b : Bool)
          → cond b (Some (change e.1)) (find fold_cmp q (map changed_entry es))
          ≡ option_and_then (λ x. Some (change x)) (cond b (Some e.1) (find fold_cmp q es))
      by_fold rest true = refl
      by_fold rest false = rest

  pub entries-each : (table : Table X)
      → entries (each (λ x. Some (change x)) table) ≡ map changed_entry (entries table)
  entries-each table =
      let rise : T (is_sorted fold_cmp (map changed_entry (entries table))) =
      subst T (sym (sorted_changed (entries table))) (entries_sorted table) in
      ap entries (same_table (each (λ x. Some (change x)) table)
      (from_sorted (map changed_entry (entries table))) (λ q.
      row-each (λ x. Some (change x)) table q
      ∙ ap (option_and_then (λ x. Some (change x))) (get-entries table q)
      ∙ sym (get-from_sorted fold_cmp (map changed_entry (entries table)) q rise
      ∙ find_changed q (entries table))))
      ∙ entries-from_sorted fold_cmp (map changed_entry (entries table)) rise

  values_changed : (es : List (List ℕ × X))
      → map (λ e. e.1) (map changed_entry es) ≡ map change (map (λ e. e.1) es)
  values_changed [] = refl
  values_changed (e ∷ es) = ap (λ more. change e.1 ∷ more) (values_changed es)

  pub values-each : (table : Table X)
      → values (each (λ x. Some (change x)) table) ≡ map change (values table)
  values-each table = ap (map (λ e. e.1)) (entries-each table) ∙ values_changed (entries table)
