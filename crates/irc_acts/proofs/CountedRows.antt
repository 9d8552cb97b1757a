-- How many rows of a table pass a test, when one row of it is altered.
use Rattle.std.proofs.Common.{◌≡◌, ◌≤◌, ℕ, ◌+◌, Bool, true, false, cond, Option, Some, None, List}
use Rattle.std.proofs.Common.{[], ◌∷◌, length, filter, map, refl, sym, ◌∙◌, ap, arith}
use Rattle.std.specs.Option.{option_map_or}
use Rattle.std.specs.declared.cmp.Ordering.{Ordering}
use Rattle.std.specs.declared.cmp.Ordering.TheVariants.{Less, Equal, Greater}
use Rattle.std.specs.Ordering.{is_eq}
use Rattle.std.specs.Cmp.Lexicographic.{nat_list_cmp_total}
use Rattle.std.specs.FinMap.{entries, values, insert, remove, get-entries, entries-insert}
use Rattle.std.specs.FinMap.Entries.{by_order, find}
use Rattle.std.specs.FinMap.Entries.{put as put_entry}
use Rattle.irc_names.specs.Tables.{Table, fold_cmp, row, put, alter}
use Rattle.irc_names.specs.TableLaws.{same_fold, same_fold-refl, one_fold, row-put, same_table}

abbrev pub one_if : Bool → ℕ
one_if b = cond b 1 0

-- a row that is put in twice, or taken out first, is put in once
put_again : {X : Type 0} (table : Table X) (fold : List ℕ) (old new : Option X)
    → put (put table fold old) fold new ≡ put table fold new
put_again {X} table fold old new =
    same_table (put (put table fold old) fold new) (put table fold new)
    (λ q. row-put (put table fold old) fold new q ∙ ap (cond (same_fold q fold) new)
    (row-put table fold old q) ∙ twice (same_fold q fold) (row table q)
    ∙ sym (row-put table fold new q))
  where
    twice : (b : Bool) (other : Option X) → cond b new (cond b old other) ≡ cond b new other
    twice true other = refl
    twice false other = refl

-- to put in the row that is there changes nothing
put_same : {X : Type 0} (table : Table X) (fold : List ℕ) → put table fold (row table fold) ≡ table
put_same table fold =
    same_table (put table fold (row table fold)) table (λ q. row-put table fold (row table fold) q
    ∙ by_fold q (same_fold q fold) refl)
  where
    by_fold : (q : List ℕ) (b : Bool) → same_fold q fold ≡ b
        → cond b (row table fold) (row table q) ≡ row table q
    by_fold q true one = ap (row table) (sym (one_fold q fold one))
    by_fold q false two = refl

none_now : {X : Type 0} (table : Table X) (fold : List ℕ) → row (remove table fold) fold ≡ None
none_now table fold =
    row-put table fold None fold ∙ ap (λ b. cond b None (row table fold)) (same_fold-refl fold)

module _ {X : Type 0} (p : X → Bool) where
  -- whether the row at a fold passes, if there is one
  abbrev pub passes : Option X → Bool
  passes o = option_map_or p o false

  abbrev pub passing : List X → ℕ
  passing rows = length (filter p rows)

  in_front : (v : X) (rows : List X) → passing (v ∷ rows) ≡ passing rows + one_if (p v)
  in_front v rows = by (p v)
    where
      by : (b : Bool) → length (cond b (v ∷ filter p rows) (filter p rows))
          ≡ passing rows + one_if b
      by true = omega arith
      by false = omega arith

  -- the rows of some entries
  abbrev rows_of : List (List ℕ × X) → List X
  rows_of es = map (λ e. e.1) es

  put_more : (k : List ℕ) (v : X) (es : List (List ℕ × X)) → find fold_cmp k es ≡ None
      → passing (rows_of (put_entry fold_cmp k v es)) ≡ passing (rows_of es) + one_if (p v)
  put_more k v [] none = in_front v []
  put_more k v (e ∷ es) none = by_place (put_more k v es) (fold_cmp k e.0) none
    where
      by_place : (find fold_cmp k es ≡ None
          → passing (rows_of (put_entry fold_cmp k v es)) ≡ passing (rows_of es) + one_if (p v))
          → (r : Ordering) → cond (is_eq r) (Some e.1) (find fold_cmp k es) ≡ None → passing
          (rows_of (by_order r ((k, v) ∷ e ∷ es) ((e.0, v) ∷ es) (e ∷ put_entry fold_cmp k v es)))
          ≡ passing (rows_of (e ∷ es)) + one_if (p v)
      by_place later Less gone = in_front v (rows_of (e ∷ es))
      by_place later Equal gone = cc gone
      by_place later Greater gone = omega (
        arith,
        later gone,
        in_front e.1 (rows_of (put_entry fold_cmp k v es)),
        in_front e.1 (rows_of es),
      )

  insert_more : (table : Table X) (k : List ℕ) (v : X) → row table k ≡ None
      → passing (values (insert table k v)) ≡ passing (values table) + one_if (p v)
  insert_more table k v none =
      ap (λ es. passing (rows_of es)) (entries-insert nat_list_cmp_total table k v)
      ∙ put_more k v (entries table) (sym (get-entries table k) ∙ none)

  put_row : (table : Table X) (k : List ℕ) (new : Option X) → row table k ≡ None
      → passing (values (put table k new)) ≡ passing (values table) + one_if (passes new)
  put_row table k None none =
      ap (λ t. passing (values t)) (ap (put table k) (sym none) ∙ put_same table k)
      ∙ and_none (passing (values table))
    where
      and_none : (n : ℕ) → n ≡ n + 0
      and_none n = omega arith
  put_row table k (Some v) none = insert_more table k v none

  -- one more where the row passes then, and one less where it did before
  pub counted : (k : List ℕ) (change : Option X → Option X) (table : Table X)
      → passing (values (alter k change table)) + one_if (passes (row table k))
      ≡ passing (values table) + one_if (passes (change (row table k)))
  unfolding alter
  counted k change table =
      let new = change (row table k) in
      let now = ap (λ t. passing (values t)) (sym (put_again table k None new))
      ∙ put_row (remove table k) k new (none_now table k) in
      let before = ap (λ t. passing (values t)) (sym (put_again table k None (row table k)
      ∙ put_same table k)) ∙ put_row (remove table k) k (row table k) (none_now table k) in
      omega (arith, now, before)

  at_most_one : (b : Bool) → one_if b ≤ 1
  at_most_one true = omega arith
  at_most_one false = omega arith

  pub passing_few : (rows : List X) → passing rows ≤ length rows
  passing_few [] = omega arith
  passing_few (v ∷ rows) = omega (arith, in_front v rows, passing_few rows, at_most_one (p v))
