-- Lists in folded order that are put together: they are in order still, and who is in one of them
-- is found.
use Rattle.std.proofs.Common.{◌≡◌, ℕ, Bool, true, false, cond, T, Option, Some, None}
use Rattle.std.proofs.Common.{List, [], ◌∷◌, ◌++◌, refl, sym, ◌∙◌, ap, map, subst}
use Rattle.std.specs.declared.cmp.Ordering.{Ordering}
use Rattle.std.specs.declared.cmp.Ordering.TheVariants.{Less, Equal, Greater}
use Rattle.std.specs.Ordering.{is_lt, ordering_reverse}
use Rattle.std.proofs.lemmas.Cmp.{nat_list_cmp_total}
use Rattle.std.specs.FinMap.{entries_sorted, find, get-entries, is_sorted}
use Rattle.std.specs.FinMap.{slice_cmp-IsAntisymmetric, nat_cmp-IsAntisymmetric}
use Rattle.std.specs.FinMap.Entries.{below_all}
use Rattle.irc_names.specs.Tables.{fold_cmp, row}
use Rattle.irc_names.specs.TableLaws.{same_fold, one_fold}
use Rattle.irc_stage.proofs.ListsKept.{none_behind}
use Rattle.irc_stage.specs.Loops.Merging.{Entry, behind, behind_if, below, below_if, entries_now}
use Rattle.irc_stage.specs.Loops.Merging.{merged, with_lists}
use Rattle.irc_stage.specs.Loops.Listening.{Conns, Lists, conn_in, conns_in, kept_at}
use Rattle.irc_tables.specs.declared.table.Row.{Row}
use Rattle.std.specs.Borrow.{Bor}
use Rattle.std.proofs.Math.Facts.{yes_and, and_yes}

-- ---- the order of folds

less_is : (o : Ordering) → T (is_lt o) → o ≡ Less
less_is Less is = refl
less_is Equal is = absurd is
less_is Greater is = absurd is

is_less : (o : Ordering) → o ≡ Less → T (is_lt o)
is_less o is = subst (λ p. T (is_lt p)) (sym is) tt

one_after : (a b : List ℕ) → fold_cmp a b ≡ Equal → a ≡ b
one_after a b is = slice_cmp-IsAntisymmetric nat_cmp-IsAntisymmetric a b is

turned : (a b : List ℕ) → fold_cmp a b ≡ Greater → fold_cmp b a ≡ Less
turned a b is = nat_list_cmp_total.antisymm b a ∙ ap ordering_reverse is

-- what is below the first is below all
below_too : (p q : List ℕ) (es : List Entry) → fold_cmp p q ≡ Less → T (below_all fold_cmp q es)
    → T (below_all fold_cmp p es)
below_too p q [] less low = tt
below_too p q (e ∷ es) less low =
    let parts = and_yes _ _ low in
    yes_and _ _
    (is_less (fold_cmp p e.0) (nat_list_cmp_total.trans p q e.0 less (less_is _ parts.0)))
    (below_too p q es less parts.1)

-- ---- one entry, put among others

-- those below an entry, it, and what becomes of those behind it
abbrev put_in : Entry → (List Entry → List Entry) → List Entry → List Entry
put_in e go found = below e.0 found ++ (e ∷ go (behind e.0 found))

abbrev put_by : Ordering → Entry → (List Entry → List Entry) → Entry → List Entry → List Entry
put_by o e go f fs =
    below_if o f (below e.0 fs) ++ (e ∷ go (behind_if o f fs (behind e.0 fs)))

module _ (e : Entry) (go : List Entry → List Entry) where
  below_put : (p : List ℕ) → T (is_lt (fold_cmp p e.0)) → ((found : List Entry) → T
      (below_all fold_cmp p found) → T (below_all fold_cmp p (go found))) → (found : List Entry)
      → T (below_all fold_cmp p found) → T (below_all fold_cmp p (put_in e go found))
  below_put p less kept [] low = yes_and _ _ less (kept [] tt)
  below_put p less kept (f ∷ fs) low =
      by_order (fold_cmp f.0 e.0) (and_yes _ _ low).0 (below_put p less kept fs (and_yes _ _ low).1)
    where
      by_order : (o : Ordering) → T (is_lt (fold_cmp p f.0)) → T
          (below_all fold_cmp p (put_in e go fs)) → T (below_all fold_cmp p (put_by o e go f fs))
      by_order Less first rest = yes_and _ _ first rest
      by_order Equal first rest = yes_and _ _ less (kept fs (and_yes _ _ low).1)
      by_order Greater first rest = yes_and _ _ less (kept (f ∷ fs) low)

  module _ (es : List Entry) (high : T (below_all fold_cmp e.0 es))
      (keeps : (p : List ℕ) → T (below_all fold_cmp p es) → (found : List Entry)
      → T (below_all fold_cmp p found) → T (below_all fold_cmp p (go found)))
      (rises : (found : List Entry) → T (is_sorted fold_cmp found)
      → T (is_sorted fold_cmp (go found)))
    where
      sorted_put : (found : List Entry) → T (is_sorted fold_cmp found)
          → T (is_sorted fold_cmp (put_in e go found))
      sorted_put [] rise = yes_and _ _ (keeps e.0 high [] tt) (rises [] tt)
      sorted_put (f ∷ fs) rise =
          by_order (fold_cmp f.0 e.0) refl (sorted_put fs (and_yes _ _ rise).1)
        where
          by_order : (o : Ordering) → fold_cmp f.0 e.0 ≡ o → T (is_sorted fold_cmp (put_in e go fs))
              → T (is_sorted fold_cmp (put_by o e go f fs))
          by_order Less is rest =
              yes_and _ _
              (below_put f.0 (is_less _ is) (keeps f.0 (below_too f.0 e.0 es is high)) fs
              (and_yes _ _ rise).0)
              rest
          by_order Equal is rest =
              yes_and _ _
              (keeps e.0 high fs
              (subst (λ q. T (below_all fold_cmp q fs)) (one_after f.0 e.0 is)
              (and_yes _ _ rise).0))
              (rises fs (and_yes _ _ rise).1)
          by_order Greater is rest =
              let less = turned f.0 e.0 is in
              yes_and _ _
              (keeps e.0 high (f ∷ fs)
              (yes_and _ _ (is_less _ less) (below_too e.0 f.0 fs less (and_yes _ _ rise).0)))
              (rises (f ∷ fs) rise)

-- ---- what stands under a fold

-- the first, if there is one, or else the second
abbrev pub either : Option ℕ → Option ℕ → Option ℕ
either None other = other
either (Some conn) other = Some conn

module _ (q : List ℕ) where
  abbrev at_q : List Entry → Option ℕ
  at_q es = find fold_cmp q es

  none_at : (p : List ℕ) (es : List Entry) → T (below_all fold_cmp p es) → same_fold q p ≡ true
      → at_q es ≡ None
  none_at p es low one = ap (λ f. find fold_cmp f es) (one_fold q p one) ∙ none_behind p es low

  found_put : (e : Entry) (go : List Entry → List Entry) (es : List Entry)
      → T (below_all fold_cmp e.0 es) → ((found : List Entry) → T (is_sorted fold_cmp found)
      → at_q (go found) ≡ either (at_q es) (at_q found)) → (found : List Entry) → T
      (is_sorted fold_cmp found) → at_q (put_in e go found) ≡ either (at_q (e ∷ es)) (at_q found)
  found_put e go es high gives [] rise =
      ap (cond (same_fold q e.0) (Some e.1)) (gives [] tt) ∙ by_test (same_fold q e.0)
    where
      by_test : (b : Bool)
          → cond b (Some e.1) (either (at_q es) None) ≡ either (cond b (Some e.1) (at_q es)) None
      by_test true = refl
      by_test false = refl
  found_put e go es high gives (f ∷ fs) rise =
      by_order (fold_cmp f.0 e.0) refl (found_put e go es high gives fs (and_yes _ _ rise).1)
    where
      by_first : (b : Bool) → same_fold q f.0 ≡ b → fold_cmp f.0 e.0 ≡ Less
          → cond b (Some f.1) (either (at_q (e ∷ es)) (at_q fs))
          ≡ either (at_q (e ∷ es)) (cond b (Some f.1) (at_q fs))
      by_first true one less =
          sym (ap (λ o. either o (Some f.1))
          (none_at f.0 (e ∷ es)
          (yes_and _ _ (is_less _ less) (below_too f.0 e.0 es less high)) one))
      by_first false two less = refl

      by_own : (b : Bool) (more : List Entry) → at_q (go more) ≡ either (at_q es) (at_q more)
          → (b ≡ false → at_q more ≡ at_q (f ∷ fs)) → cond b (Some e.1) (at_q (go more))
          ≡ either (cond b (Some e.1) (at_q es)) (at_q (f ∷ fs))
      by_own true more is same = refl
      by_own false more is same = is ∙ ap (either (at_q es)) (same refl)

      by_order : (o : Ordering) → fold_cmp f.0 e.0 ≡ o
          → at_q (put_in e go fs) ≡ either (at_q (e ∷ es)) (at_q fs)
          → at_q (put_by o e go f fs) ≡ either (at_q (e ∷ es)) (at_q (f ∷ fs))
      by_order Less is rest =
          ap (cond (same_fold q f.0) (Some f.1)) rest ∙ by_first (same_fold q f.0) refl is
      by_order Equal is rest =
          by_own (same_fold q e.0) fs
          (gives fs (and_yes (below_all fold_cmp f.0 fs) (is_sorted fold_cmp fs) rise).1)
          (λ two. sym (ap (λ t. cond t (Some f.1) (at_q fs))
          (ap (same_fold q) (one_after f.0 e.0 is) ∙ two)))
      by_order Greater is rest =
          by_own (same_fold q e.0) (f ∷ fs) (gives (f ∷ fs) rise) (λ two. refl)

-- ---- two lists

pub below_merged : (es : List Entry) (p : List ℕ) → T (below_all fold_cmp p es)
    → (found : List Entry) → T (below_all fold_cmp p found)
    → T (below_all fold_cmp p (merged es found))
below_merged [] p low found too = too
below_merged (e ∷ es) p low found too =
    below_put e (merged es) p (and_yes _ _ low).0 (below_merged es p (and_yes _ _ low).1) found too

pub sorted_merged : (es : List Entry) → T (is_sorted fold_cmp es) → (found : List Entry)
    → T (is_sorted fold_cmp found) → T (is_sorted fold_cmp (merged es found))
sorted_merged [] rise found too = too
sorted_merged (e ∷ es) rise found too =
    sorted_put e (merged es) es (and_yes _ _ rise).0 (below_merged es)
    (sorted_merged es (and_yes _ _ rise).1) found too

pub found_merged : (q : List ℕ) (es : List Entry) → T (is_sorted fold_cmp es) → (found : List Entry)
    → T (is_sorted fold_cmp found)
    → find fold_cmp q (merged es found) ≡ either (find fold_cmp q es) (find fold_cmp q found)
found_merged q [] rise found too = refl
found_merged q (e ∷ es) rise found too =
    found_put q e (merged es) es (and_yes _ _ rise).0
    (found_merged q es (and_yes _ _ rise).1) found too

-- of several lists

sorted_conns : (o : Option Conns) → T (is_sorted fold_cmp (conns_in o))
sorted_conns None = tt
sorted_conns (Some conns) = entries_sorted conns

found_conns : (q : List ℕ) (o : Option Conns) → find fold_cmp q (conns_in o) ≡ conn_in o q
found_conns q None = refl
found_conns q (Some conns) = sym (get-entries conns q)

pub found_lists : (lists : Lists) (c : List ℕ) (q : List ℕ) (found : List Entry)
    → T (is_sorted fold_cmp found)
    → find fold_cmp q (merged (conns_in (row lists c)) found)
    ≡ either (kept_at lists c q) (find fold_cmp q found)
found_lists lists c q found too =
    found_merged q (conns_in (row lists c)) (sorted_conns (row lists c)) found too
    ∙ ap (λ o. either o (find fold_cmp q found)) (found_conns q (row lists c))

pub sorted_with : (lists : Lists) (c : List ℕ) (found : List Entry)
    → T (is_sorted fold_cmp found) → T (is_sorted fold_cmp (merged (conns_in (row lists c)) found))
sorted_with lists c found too =
    sorted_merged (conns_in (row lists c)) (sorted_conns (row lists c)) found too

pub sorted_lists : (lists : Lists) (cs : List (List ℕ)) (found : List Entry)
    → T (is_sorted fold_cmp found) → T (is_sorted fold_cmp (with_lists lists cs found))
sorted_lists lists [] found too = too
sorted_lists lists (c ∷ cs) found too =
    sorted_lists lists cs (merged (conns_in (row lists c)) found) (sorted_with lists c found too)

-- the connections alone
pub values_now : (rows : List (Bor (Row ℕ)))
    → map (λ (row : Bor (Row ℕ)). row.now.value) rows ≡ map (λ (e : Entry). e.1) (entries_now rows)
values_now [] = refl
values_now (row ∷ rows) = ap (λ l. row.now.value ∷ l) (values_now rows)
