-- Rows that are all changed, some of them taken out.
use Rattle.std.proofs.Common.{◌≡◌, ℕ, Bool, true, false, cond, List, [], ◌∷◌, map, refl, sym, ◌∙◌}
use Rattle.std.proofs.Common.{ap, Option, Some, None}
use Rattle.std.proofs.lemmas.Bool.{and_parts, and_from}
use Rattle.std.specs.List.Retain.{RetainsInTurn}
use Rattle.std.specs.Option.{option_and_then}
use Rattle.std.specs.Ordering.{is_lt}
use Rattle.std.specs.Cmp.Lexicographic.{nat_list_cmp_total}
use Rattle.std.specs.FinMap.{find, is_sorted}
use Rattle.std.specs.FinMap.Entries.{below_all}
use Rattle.irc_names.specs.Tables.{each, fold_cmp}
use Rattle.irc_names.specs.TableLaws.{same_fold, one_fold, same_table, row-each}
use Rattle.irc_tables.specs.FoldedRows.{table_of, IsInFoldedOrder}
use Rattle.irc_tables.specs.Lemmas.OrderedEntries.{above-is, find-above}
use Rattle.irc_tables.specs.Lemmas.RowsAsTable.{row-table_of}

-- an entry before others, where there is one
abbrev cons_row : {V : Type 0} → List ℕ → Option V → List (List ℕ × V) → List (List ℕ × V)
cons_row fold None es = es
cons_row fold (Some v) es = (fold, v) ∷ es

-- the entries with their values changed, without those that go
pub kept_rows : {V W : Type 0} → (V → Option W) → List (List ℕ × V) → List (List ℕ × W)
kept_rows g [] = []
kept_rows g (e ∷ es) = cons_row e.0 (g e.1) (kept_rows g es)

below_cons : {V : Type 0} (k fold : List ℕ) (o : Option V) (es : List (List ℕ × V))
    → is_lt (fold_cmp k fold) ≡ true → below_all fold_cmp k es ≡ true
    → below_all fold_cmp k (cons_row fold o es) ≡ true
below_cons k fold None es lt below = below
below_cons k fold (Some v) es lt below = and_from _ _ lt below

below_kept : {V W : Type 0} (g : V → Option W) (k : List ℕ) (es : List (List ℕ × V))
    → below_all fold_cmp k es ≡ true → below_all fold_cmp k (kept_rows g es) ≡ true
unfolding kept_rows
below_kept g k [] below = refl
below_kept g k (e ∷ es) below =
    let parts = and_parts _ _ below in
    below_cons k e.0 (g e.1) (kept_rows g es) parts.0 (below_kept g k es parts.1)

sorted_cons : {V : Type 0} (fold : List ℕ) (o : Option V) (es : List (List ℕ × V))
    → below_all fold_cmp fold es ≡ true → is_sorted fold_cmp es ≡ true
    → is_sorted fold_cmp (cons_row fold o es) ≡ true
sorted_cons fold None es below sorted = sorted
sorted_cons fold (Some v) es below sorted = and_from _ _ below sorted

pub sorted_kept : {V W : Type 0} (g : V → Option W) (es : List (List ℕ × V))
    → is_sorted fold_cmp es ≡ true → is_sorted fold_cmp (kept_rows g es) ≡ true
unfolding kept_rows
sorted_kept g [] sorted = refl
sorted_kept g (e ∷ es) sorted =
    let parts = and_parts _ _ sorted in
    sorted_cons e.0 (g e.1) (kept_rows g es) (below_kept g e.0 es parts.0)
    (sorted_kept g es parts.1)

-- one entry more, whether it stays or goes
find_cons : {V W : Type 0} (g : V → Option W) (q fold : List ℕ) (v : V) (rest : Option V)
    (es : List (List ℕ × W)) → find fold_cmp q es ≡ option_and_then g rest
    → (same_fold q fold ≡ true → rest ≡ None) → (o : Option W) → g v ≡ o → find fold_cmp q
    (cons_row fold o es) ≡ option_and_then g (cond (same_fold q fold) (Some v) rest)
find_cons g q fold v rest es found alone None gone = by (same_fold q fold) refl
  where
    by : (b : Bool) → same_fold q fold ≡ b
        → find fold_cmp q es ≡ option_and_then g (cond b (Some v) rest)
    by true one = found ∙ ap (option_and_then g) (alone one) ∙ sym gone
    by false two = found
find_cons g q fold v rest es found alone (Some w) stays = by (same_fold q fold)
  where
    by : (b : Bool) → cond b (Some w) (find fold_cmp q es) ≡ option_and_then g
        (cond b (Some v) rest)
    by true = sym stays
    by false = found

pub find_kept : {V W : Type 0} (g : V → Option W) (q : List ℕ)
    (es : List (List ℕ × V)) → is_sorted fold_cmp es ≡ true
    → find fold_cmp q (kept_rows g es) ≡ option_and_then g (find fold_cmp q es)
unfolding kept_rows
find_kept g q [] sorted = refl
find_kept g q (e ∷ es) sorted =
    let parts = and_parts _ _ sorted in
    find_cons g q e.0 e.1 (find fold_cmp q es) (kept_rows g es) (find_kept g q es parts.1)
    (λ one. ap (λ k. find fold_cmp k es) (one_fold q e.0 one)
    ∙ find-above nat_list_cmp_total e.0 es (sym (above-is nat_list_cmp_total e.0 es) ∙ parts.0))
    (g e.1) refl

-- what one call does to a row
pub record Changes {X V S : Type 0} (entry : X → List ℕ × V) (g : V → Option V) (I : S → Type 0)
    (x : X) (b : Bool) (t : S) (y : X) : Type 0 where
  pub still : I t
  pub named : (entry y).0 ≡ (entry x).0
  pub value : g (entry x).1 ≡ cond b (Some ((entry y).1)) None

module _ {X V S : Type 0} (entry : X → List ℕ × V) (g : V → Option V) (I : S → Type 0)
    (R : S → X → Bool → S → X → Type 0)
    (step : (s : S) (x : X) (b : Bool) (t : S) (y : X) → I s → R s x b t y
    → Changes entry g I x b t y) where
  stays_or_goes : (x y : X) (b : Bool) (zs : List X) (es : List (List ℕ × V))
      → (entry y).0 ≡ (entry x).0 → g (entry x).1 ≡ cond b (Some ((entry y).1)) None
      → map entry zs ≡ es → map entry (cond b (y ∷ zs) zs) ≡ cons_row (entry x).0 (g (entry x).1) es
  stays_or_goes x y true zs es named value rest =
      ap (λ k. (k, (entry y).1) ∷ map entry zs) named
      ∙ ap (λ more. ((entry x).0, (entry y).1) ∷ more) rest
      ∙ ap (λ o. cons_row (entry x).0 o es) (sym value)
  stays_or_goes x y false zs es named value rest =
      rest ∙ ap (λ o. cons_row (entry x).0 o es) (sym value)

  pub retained : (xs ys : List X) (s : S) → I s → RetainsInTurn R s xs ys
      → map entry ys ≡ kept_rows g (map entry xs)
  unfolding kept_rows
  retained [] ys s held done = ap (map entry) done
  retained (x ∷ xs) ys s held done =
      let change = step s x done.0 done.1 done.2 held done.3 in
      ap (map entry) done.6
      ∙ stays_or_goes x done.2 done.0 done.4 (kept_rows g (map entry xs)) change.named change.value
      (retained xs done.4 done.1 change.still done.5)

  pub retained-sorted : (xs ys : List X) (s : S) → I s → RetainsInTurn R s xs ys
      → IsInFoldedOrder entry xs → IsInFoldedOrder entry ys
  unfolding IsInFoldedOrder
  retained-sorted xs ys s held done sorted = ap (is_sorted fold_cmp) (retained xs ys s held done)
      ∙ sorted_kept g (map entry xs) sorted

  pub retained-table : (xs ys : List X) (s : S) → I s → RetainsInTurn R s xs ys
      → IsInFoldedOrder entry xs → table_of entry ys ≡ each g (table_of entry xs)
  unfolding IsInFoldedOrder
  retained-table xs ys s held done sorted = same_table _ _ (λ q.
      row-table_of entry ys q
      ∙ ap (find fold_cmp q) (retained xs ys s held done)
      ∙ find_kept g q (map entry xs) sorted
      ∙ ap (option_and_then g) (sym (row-table_of entry xs q))
      ∙ sym (row-each g (table_of entry xs) q))
