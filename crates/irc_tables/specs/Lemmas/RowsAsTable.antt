-- Rows in folded order, seen as a table.
use Rattle.std.specs.Prelude.{T, OnOk}
use Rattle.std.proofs.Common.{◌≡◌, ℕ, ◌<◌, suc, Bool, true, false, not, cond, List, [], ◌∷◌, ◌++◌}
use Rattle.std.proofs.Common.{map, take, drop, length, get_or, refl, sym, ◌∙◌, ap, Option}
use Rattle.std.proofs.Common.{Some, None, Result, Ok, Err, is_some, is_ok, arith, drop-cons}
use Rattle.std.proofs.Common.{add-one, set, option_map}
use Rattle.std.proofs.lemmas.List.{get_or_default, length-map, map-append, take-append-drop}
use Rattle.std.proofs.lemmas.List.{take-set, drop-set, drop-set-lt}
use Rattle.std.proofs.lemmas.List.Folds.{list_all-map}
use Rattle.std.specs.List.{insert, remove}
use Rattle.std.specs.Ordering.{is_lt, eq_by_cmp}
use Rattle.std.specs.Cmp.{IsTotalOrder, eq_by_cmp_equiv}
use Rattle.std.specs.Cmp.Lexicographic.{nat_list_cmp_total}
use Rattle.std.specs.FinMap.{empty, entries, keys, from_sorted, get-from_entries, get-from_sorted}
use Rattle.std.specs.FinMap.{entries-from_sorted, find, is_sorted, slice_cmp-IsAntisymmetric}
use Rattle.std.specs.FinMap.{nat_cmp-IsAntisymmetric}
use Rattle.std.specs.FinMap.Entries.{put as put_entry, is_sorted-put, find-put, is_sorted-where_key}
use Rattle.std.specs.FinMap.Entries.{find-where_key}
use Rattle.std.specs.Bool.{passes}
use Rattle.irc_names.specs.Lemmas.PlainFacts.{is_true}
use Rattle.irc_names.specs.Tables.{Table, row, put, alter, moved, put_row, fold_cmp}
use Rattle.irc_names.specs.TableLaws.{same_fold, one_fold, same_table, row-alter}
use Rattle.irc_tables.specs.FoldedRows.{table_of, IsInFoldedOrder, StandsAt, BelongsAt, IsPlaceOf}
use Rattle.irc_tables.specs.Lemmas.OrderedEntries.{are_below, are_above, put-between, put-there}
use Rattle.irc_tables.specs.Lemmas.OrderedEntries.{find-above, find-past, find-there, others}
use Rattle.irc_tables.specs.Lemmas.OrderedEntries.{others-between, sorted-below, sorted-above}

abbrev order : IsTotalOrder fold_cmp
order = nat_list_cmp_total

abbrev look : {V : Type 0} → List ℕ → List (List ℕ × V) → Option V
look = find fold_cmp

-- what the table of a list answers
pub row-table_of : {X V : Type 0} (entry : X → List ℕ × V) (rows : List X) (q : List ℕ)
    → row (table_of entry rows) q ≡ look q (map entry rows)
unfolding table_of
row-table_of entry rows q = get-from_entries order (map entry rows) q

-- the entries of the table are those of the list, in its order
pub entries-table_of : {X V : Type 0} (entry : X → List ℕ × V) (rows : List X)
    → IsInFoldedOrder entry rows → entries (table_of entry rows) ≡ map entry rows
unfolding table_of IsInFoldedOrder
entries-table_of entry rows sorted =
    let es = map entry rows in
    let in_order : T (is_sorted fold_cmp es) = passes _ sorted in
    let one : table_of entry rows ≡ from_sorted {R = fold_cmp} es =
    same_table (table_of entry rows) (from_sorted es) (λ q. get-from_entries order es q
    ∙ sym (get-from_sorted fold_cmp es q in_order)) in
    ap entries one ∙ entries-from_sorted fold_cmp es in_order

-- there are as many keys as rows
pub length-keys : {X V : Type 0} (entry : X → List ℕ × V) (rows : List X)
    → IsInFoldedOrder entry rows → length (keys (table_of entry rows)) ≡ length rows
length-keys entry rows sorted =
    ap (λ es. length (map (λ e. e.0) es)) (entries-table_of entry rows sorted)
    ∙ length-map (map entry rows) (λ e. e.0)
    ∙ length-map rows entry

-- ---- a row put in where it belongs

module _ {X V : Type 0} (entry : X → List ℕ × V) (rows : List X) (fold : List ℕ) (i : ℕ)
    (gap : BelongsAt entry rows fold i) where
  abbrev front : List (List ℕ × V)
  front = map entry (take i rows)

  abbrev back : List (List ℕ × V)
  back = map entry (drop i rows)

  cut : map entry rows ≡ front ++ back
  cut =
      ap (map entry) (sym (take-append-drop i rows)) ∙ map-append entry (take i rows) (drop i rows)

  below : are_below order fold front ≡ true
  below = list_all-map (λ e. is_lt (fold_cmp e.0 fold)) entry (take i rows) ∙ gap.before

  above : are_above order fold back ≡ true
  above = list_all-map (λ e. is_lt (fold_cmp fold e.0)) entry (drop i rows) ∙ gap.after

  pub row-absent : row (table_of entry rows) fold ≡ None
  row-absent =
      row-table_of entry rows fold ∙ ap (look fold) cut ∙ find-past order fold front back below
      ∙ find-above order fold back above

  module _ (x : X) (v : V) (is : entry x ≡ (fold, v)) where
    inserted : map entry (insert rows i x) ≡ put_entry fold_cmp fold v (map entry rows)
    inserted =
        map-append entry (take i rows) (x ∷ drop i rows)
        ∙ ap (λ e. front ++ e ∷ back) is
        ∙ sym (put-between order fold v front back below above)
        ∙ ap (put_entry fold_cmp fold v) (sym cut)

    pub added-sorted : IsInFoldedOrder entry rows → IsInFoldedOrder entry (insert rows i x)
    unfolding IsInFoldedOrder
    added-sorted sorted =
        ap (is_sorted fold_cmp) inserted
        ∙ is_true _ (is_sorted-put fold_cmp order fold v (map entry rows) (passes _ sorted))

    pub added-table : table_of entry (insert rows i x) ≡ alter fold (λ _. Some v)
        (table_of entry rows)
    added-table = same_table _ _ (λ q.
        row-table_of entry (insert rows i x) q
        ∙ ap (look q) inserted
        ∙ find-put fold_cmp order q fold v (map entry rows)
        ∙ sym (row-alter fold (λ _. Some v) (table_of entry rows) q
        ∙ ap (cond (same_fold q fold) (Some v)) (row-table_of entry rows q)))

-- ---- a row taken out, or changed

other_fold : {X : Type 0} (b c : Bool) (x : Option X) → b ≡ c → cond (not b) x None ≡ cond c None x
other_fold true c x same = ap (λ t. cond t None x) same
other_fold false c x same = ap (λ t. cond t None x) same

module _ {X V : Type 0} (entry : X → List ℕ × V) (rows : List X) (fold : List ℕ) (i : ℕ) (x : X)
    (v : V) (sorted : IsInFoldedOrder entry rows) (within : i < length rows)
    (is : x ≡ get_or rows i x) (named : entry x ≡ (fold, v)) where
  abbrev front_of : List (List ℕ × V)
  front_of = map entry (take i rows)

  abbrev back_of : List (List ℕ × V)
  back_of = map entry (drop (suc i) rows)

  whole : rows ≡ take i rows ++ x ∷ drop (suc i) rows
  whole =
      sym (take-append-drop i rows)
      ∙ ap (λ us. take i rows ++ us) (drop-cons rows i x within
      ∙ ap (λ u. u ∷ drop (suc i) rows) (sym is))

  whole_entries : map entry rows ≡ front_of ++ (fold, v) ∷ back_of
  whole_entries =
      ap (map entry) whole ∙ map-append entry (take i rows) (x ∷ drop (suc i) rows)
      ∙ ap (λ e. front_of ++ e ∷ back_of) named

  in_order : is_sorted fold_cmp (front_of ++ (fold, v) ∷ back_of) ≡ true
  unfolding IsInFoldedOrder
  in_order = ap (is_sorted fold_cmp) (sym whole_entries) ∙ sorted

  pub row-present : row (table_of entry rows) fold ≡ Some v
  row-present =
      row-table_of entry rows fold ∙ ap (look fold) whole_entries
      ∙ find-there order fold v front_of back_of
      (sorted-below order fold v front_of back_of in_order)

  left : map entry (remove rows i) ≡ others order fold (map entry rows)
  left =
      map-append entry (take i rows) (drop (suc i) rows)
      ∙ sym (others-between order fold v front_of back_of
      (sorted-below order fold v front_of back_of in_order)
      (sorted-above order fold v front_of back_of in_order))
      ∙ ap (others order fold) (sym whole_entries)

  pub removed-sorted : IsInFoldedOrder entry (remove rows i)
  unfolding IsInFoldedOrder
  removed-sorted =
      ap (is_sorted fold_cmp) left
      ∙ is_true _ (is_sorted-where_key fold_cmp (λ k. not (eq_by_cmp fold_cmp fold k))
      (map entry rows)
      (passes _ sorted))

  look-others : (q : List ℕ) → look q (others order fold (map entry rows))
      ≡ cond (same_fold q fold) None (look q (map entry rows))
  look-others q =
      find-where_key fold_cmp (λ k. not (eq_by_cmp fold_cmp fold k)) q
      (λ k tie. ap (λ k. not (eq_by_cmp fold_cmp fold k))
      (sym (slice_cmp-IsAntisymmetric nat_cmp-IsAntisymmetric q k tie))) (map entry rows)
      ∙ other_fold (eq_by_cmp fold_cmp fold q) (same_fold q fold) (look q (map entry rows))
      ((eq_by_cmp_equiv order).symm fold q)

  pub removed-table : table_of entry (remove rows i) ≡ alter fold (λ _. None) (table_of entry rows)
  removed-table = same_table _ _ (λ q.
      row-table_of entry (remove rows i) q
      ∙ ap (look q) left
      ∙ look-others q
      ∙ sym (row-alter fold (λ _. None) (table_of entry rows) q
      ∙ ap (cond (same_fold q fold) None) (row-table_of entry rows q)))

  module _ (y : X) (w : V) (now : entry y ≡ (fold, w)) where
    set_parts : set rows i y ≡ take i rows ++ y ∷ drop (suc i) rows
    set_parts =
        sym (take-append-drop i (set rows i y))
        ∙ ap (λ front. front ++ drop i (set rows i y)) (take-set rows i y)
        ∙ ap (λ back. take i rows ++ back) (drop-set rows i y within
        ∙ ap (λ n. y ∷ drop n rows) (add-one i))

    replaced : map entry (set rows i y) ≡ put_entry fold_cmp fold w (map entry rows)
    replaced =
        ap (map entry) set_parts
        ∙ map-append entry (take i rows) (y ∷ drop (suc i) rows)
        ∙ ap (λ e. front_of ++ e ∷ back_of) now
        ∙ sym (put-there order fold w v front_of back_of
        (sorted-below order fold v front_of back_of in_order))
        ∙ ap (put_entry fold_cmp fold w) (sym whole_entries)

    pub replaced-sorted : IsInFoldedOrder entry (set rows i y)
    unfolding IsInFoldedOrder
    replaced-sorted = ap (is_sorted fold_cmp) replaced
        ∙ is_true _ (is_sorted-put fold_cmp order fold w (map entry rows) (passes _ sorted))

    pub replaced-table : table_of entry (set rows i y) ≡ alter fold (λ _. Some w)
        (table_of entry rows)
    replaced-table = same_table _ _ (λ q.
        row-table_of entry (set rows i y) q
        ∙ ap (look q) replaced
        ∙ find-put fold_cmp order q fold w (map entry rows)
        ∙ sym (row-alter fold (λ _. Some w) (table_of entry rows) q
        ∙ ap (cond (same_fold q fold) (Some w)) (row-table_of entry rows q)))

-- a row that is taken out after it was changed
pub remove_changed : {X : Type 0} (rows : List X) (i : ℕ) (y : X)
    → remove (set rows i y) i ≡ remove rows i
remove_changed rows i y =
    ap (λ front. front ++ drop (suc i) (set rows i y)) (take-set rows i y)
    ∙ ap (λ back. take i rows ++ back) (drop-set-lt (suc i) rows i y (omega arith))

-- what a row becomes is all that counts
pub alter_alike : {V : Type 0} (table : Table V) (fold : List ℕ)
    (change other : Option V → Option V) → change (row table fold) ≡ other (row table fold)
    → alter fold change table ≡ alter fold other table
unfolding alter
alter_alike table fold change other alike = ap (put table fold) alike

-- what a change said, by whether the row stays
pub said_goes : {V : Type 0} (stays : Bool) (o : Option V) (w : V) → o ≡ cond stays (Some w) None
    → stays ≡ false → o ≡ None
said_goes true o w is goes = cc
said_goes false o w is goes = is

pub said_stays : {V : Type 0} (stays : Bool) (o : Option V) (w : V) → o ≡ cond stays (Some w) None
    → stays ≡ true → o ≡ Some w
said_stays true o w is stays = is
said_stays false o w is stays = cc

-- what follows where a call was Ok
pub ok_also : {U E A B : Type 0} (result : Result U E) → (A → B) → OnOk result A → OnOk result B
ok_also (Ok u) follows told = follows told
ok_also (Err e) follows told = tt

-- ---- whether a row is there

pub stands-present : {X V : Type 0} (entry : X → List ℕ × V) (rows : List X) (fold : List ℕ) (i : ℕ)
    → IsInFoldedOrder entry rows → StandsAt entry rows fold i
    → is_some (row (table_of entry rows) fold) ≡ true
stands-present entry [] fold i sorted at = absurd (let lt = at.within in omega arith)
stands-present entry (u ∷ rows) fold i sorted at =
    let x = get_or (u ∷ rows) i u in
    ap is_some (row-present entry (u ∷ rows) fold i x (entry x).1 sorted at.within
    (get_or_default (u ∷ rows) i u x at.within) (ap (λ k. (k, (entry x).1)) (at.named u)))

pub place-known : {X V : Type 0} (entry : X → List ℕ × V) (rows : List X) (fold : List ℕ)
    (result : Result ℕ ℕ) → IsInFoldedOrder entry rows → IsPlaceOf entry rows fold result
    → is_ok result ≡ is_some (row (table_of entry rows) fold)
place-known entry rows fold (Ok i) sorted at = sym (stands-present entry rows fold i sorted at)
place-known entry rows fold (Err i) sorted gap = sym (ap is_some (row-absent entry rows fold i gap))

-- to take out what is not there changes nothing
pub alter-absent : {V : Type 0} (table : Table V) (fold : List ℕ) → row table fold ≡ None
    → alter fold (λ _. None) table ≡ table
alter-absent table fold absent =
    same_table _ _ (λ q. row-alter fold (λ _. None) table q ∙ none_stays q (same_fold q fold) refl)
  where
    none_stays : (q : List ℕ) (b : Bool) → same_fold q fold ≡ b
        → cond b None (row table q) ≡ row table q
    none_stays q true same = sym (ap (row table) (one_fold q fold same) ∙ absent)
    none_stays q false other = refl

-- the value of the row that stands at a place
pub row-stands : {X V : Type 0} (entry : X → List ℕ × V) (rows : List X) (fold : List ℕ) (i : ℕ)
    (x : X) → IsInFoldedOrder entry rows → StandsAt entry rows fold i → x ≡ get_or rows i x
    → row (table_of entry rows) fold ≡ Some ((entry x).1)
row-stands entry rows fold i x sorted at is =
    row-present entry rows fold i x (entry x).1 sorted at.within is
    (ap (λ k. (k, (entry x).1)) (ap (λ u. (entry u).0) is ∙ at.named x))

-- the row itself, as an entry
pub entry-stands : {X V : Type 0} (entry : X → List ℕ × V) (rows : List X) (fold : List ℕ) (i : ℕ)
    (x : X) → IsInFoldedOrder entry rows → StandsAt entry rows fold i → x ≡ get_or rows i x
    → Some (entry x) ≡ option_map (λ v. (fold, v)) (row (table_of entry rows) fold)
entry-stands entry rows fold i x sorted at is =
    ap (λ k. Some (k, (entry x).1)) (ap (λ u. (entry u).0) is ∙ at.named x)
    ∙ sym (ap (option_map (λ v. (fold, v))) (row-stands entry rows fold i x sorted at is))

-- a row that is taken out and put in under another name is moved
pub moved_there : {V : Type 0} (table rest after : Table V) (old new : List ℕ) (v : V)
    → Some v ≡ row table old → rest ≡ alter old (λ _. None) table
    → after ≡ alter new (λ _. Some v) rest → after ≡ moved old new (λ v. v) table
unfolding moved
moved_there table rest after old new v there taken_out put_in =
    put_in
    ∙ ap (alter new (λ _. Some v)) taken_out
    ∙ ap (λ o. put_row o new (λ v. v) (alter old (λ _. None) table)) there

pub moved_not : {V : Type 0} (table rest : Table V) (old new : List ℕ) → None ≡ row table old
    → rest ≡ alter old (λ _. None) table → rest ≡ moved old new (λ v. v) table
unfolding moved
moved_not table rest old new none taken_out =
    taken_out ∙ ap (λ o. put_row o new (λ v. v) (alter old (λ _. None) table)) none

pub nothing-sorted : {X V : Type 0} (entry : X → List ℕ × V) → IsInFoldedOrder entry []
unfolding IsInFoldedOrder
nothing-sorted entry = refl

pub nothing-table : {X V : Type 0} (entry : X → List ℕ × V) → table_of entry [] ≡ empty
unfolding table_of
nothing-table entry = refl
