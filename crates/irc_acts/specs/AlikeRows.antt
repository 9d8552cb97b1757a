-- The rows of tables that are the same once each is changed, and what is made of such rows.
use Rattle.std.specs.Prelude.{T}
use Rattle.std.proofs.Common.{◌≡◌, ℕ, Bool, true, false, cond, ◌&&◌, ◌||◌, ◌++◌, Option, Some, None}
use Rattle.std.proofs.Common.{List, [], ◌∷◌, map, filter, refl, sym, ◌∙◌, ap, subst}
use Rattle.std.specs.List.{cons_option, flat_map, filter_map, list_any}
use Rattle.std.specs.Option.{option_map, option_and_then}
use Rattle.std.specs.Ordering.{is_lt}
use Rattle.std.specs.FinMap.{entries, entries_sorted, values, find, from_sorted, is_sorted}
use Rattle.std.specs.FinMap.{get-entries, get-from_sorted, entries-from_sorted}
use Rattle.std.specs.FinMap.Entries.{below_all}
use Rattle.irc_names.specs.Tables.{Table, row, each, fold_cmp}
use Rattle.irc_names.specs.TableLaws.{same_fold, same_table, row-each}

-- ---- the rows of a table, each changed

module _ {X : Type 0} (f : X → X) where
  abbrev change : List ℕ × X → List ℕ × X
  change e = (e.0, f e.1)

  abbrev change_row : X → Option X
  change_row x = Some (f x)

  below_still : (fold : List ℕ) (es : List (List ℕ × X))
      → below_all fold_cmp fold (map change es) ≡ below_all fold_cmp fold es
  below_still fold [] = refl
  below_still fold (e ∷ es) = ap (λ b. is_lt (fold_cmp fold e.0) && b) (below_still fold es)

  sorted_still : (es : List (List ℕ × X))
      → is_sorted fold_cmp (map change es) ≡ is_sorted fold_cmp es
  sorted_still [] = refl
  sorted_still (e ∷ es) =
      ap (λ b. b && is_sorted fold_cmp (map change es)) (below_still e.0 es)
      ∙ ap (λ b. below_all fold_cmp e.0 es && b) (sorted_still es)

  found_changed : (q : List ℕ) (es : List (List ℕ × X))
      → find fold_cmp q (map change es) ≡ option_map f (find fold_cmp q es)
  found_changed q [] = refl
  found_changed q (e ∷ es) = by (same_fold q e.0) (found_changed q es)
    where
      by : (b : Bool) → find fold_cmp q (map change es) ≡ option_map f (find fold_cmp q es)
          → cond b (Some (f e.1)) (find fold_cmp q (map change es))
          ≡ option_map f (cond b (Some e.1) (find fold_cmp q es))
      by true rest = refl
      by false rest = rest

  as_mapped : (found : Option X) → option_and_then change_row found ≡ option_map f found
  as_mapped None = refl
  as_mapped (Some x) = refl

  values_of : (es : List (List ℕ × X)) → map (λ e. e.1) (map change es) ≡ map f (map (λ e. e.1) es)
  values_of [] = refl
  values_of (e ∷ es) = ap (λ more. f e.1 ∷ more) (values_of es)

  entries_changed : (table : Table X)
      → entries (each change_row table) ≡ map change (entries table)
  entries_changed table =
      let sorted = subst T (sym (sorted_still (entries table))) (entries_sorted table) in
      ap entries
      (same_table (each change_row table) (from_sorted (map change (entries table))) (λ q.
      row-each change_row table q
      ∙ as_mapped (row table q)
      ∙ ap (option_map f) (get-entries table q)
      ∙ sym (found_changed q (entries table))
      ∙ sym (get-from_sorted fold_cmp (map change (entries table)) q sorted)))
      ∙ entries-from_sorted fold_cmp (map change (entries table)) sorted

  values_changed : (table : Table X) → values (each change_row table) ≡ map f (values table)
  values_changed table = ap (map (λ e. e.1)) (entries_changed table) ∙ values_of (entries table)

  -- tables whose rows are the same once each is changed have the same rows in folded order then
  pub values_alike : (one other : Table X)
      → ((q : List ℕ) → option_map f (row one q) ≡ option_map f (row other q))
      → map f (values one) ≡ map f (values other)
  values_alike one other same =
      sym (values_changed one)
      ∙ ap values (same_table (each change_row one) (each change_row other) (λ q.
      row-each change_row one q
      ∙ as_mapped (row one q)
      ∙ same q
      ∙ sym (as_mapped (row other q))
      ∙ sym (row-each change_row other q)))
      ∙ values_changed other

  -- ---- what looks at nothing that is changed is the same of changed rows

  pub filter_changed : (p : X → Bool) → ((x : X) → p (f x) ≡ p x) → (xs : List X)
      → filter p (map f xs) ≡ map f (filter p xs)
  filter_changed p aside [] = refl
  filter_changed p aside (x ∷ xs) =
      ap (λ b. cond b (f x ∷ filter p (map f xs)) (filter p (map f xs))) (aside x)
      ∙ by (p x) (filter_changed p aside xs)
    where
      by : (b : Bool) → filter p (map f xs) ≡ map f (filter p xs)
          → cond b (f x ∷ filter p (map f xs)) (filter p (map f xs))
          ≡ map f (cond b (x ∷ filter p xs) (filter p xs))
      by true rest = ap (λ more. f x ∷ more) rest
      by false rest = rest

  pub map_changed : {Z : Type 0} (g : X → Z) → ((x : X) → g (f x) ≡ g x) → (xs : List X)
      → map g (map f xs) ≡ map g xs
  map_changed g aside [] = refl
  map_changed g aside (x ∷ xs) =
      ap (λ z. z ∷ map g (map f xs)) (aside x) ∙ ap (λ more. g x ∷ more) (map_changed g aside xs)

  pub flat_changed : {Z : Type 0} (g : X → List Z) → ((x : X) → g (f x) ≡ g x) → (xs : List X)
      → flat_map g (map f xs) ≡ flat_map g xs
  flat_changed g aside [] = refl
  flat_changed g aside (x ∷ xs) =
      ap (λ zs. zs ++ flat_map g (map f xs)) (aside x)
      ∙ ap (λ more. g x ++ more) (flat_changed g aside xs)

  pub any_changed : (p : X → Bool) → ((x : X) → p (f x) ≡ p x) → (xs : List X)
      → list_any p (map f xs) ≡ list_any p xs
  any_changed p aside [] = refl
  any_changed p aside (x ∷ xs) =
      ap (λ b. b || list_any p (map f xs)) (aside x) ∙ ap (λ b. p x || b) (any_changed p aside xs)

  pub filter_map_changed : {Z : Type 0} (g : X → Option Z) → ((x : X) → g (f x) ≡ g x)
      → (xs : List X) → filter_map g (map f xs) ≡ filter_map g xs
  filter_map_changed g aside [] = refl
  filter_map_changed g aside (x ∷ xs) =
      ap (λ z. cons_option z (filter_map g (map f xs))) (aside x)
      ∙ ap (cons_option (g x)) (filter_map_changed g aside xs)

  -- and so it is of two lists that are the same once each is changed
  pub same_of_both : {Z : Type 0} (g : List X → Z) → ((xs : List X) → g (map f xs) ≡ g xs)
      → (one other : List X) → map f one ≡ map f other → g one ≡ g other
  same_of_both g aside one other same = sym (aside one) ∙ ap g same ∙ aside other
