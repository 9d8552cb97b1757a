-- A neighbour is told of the nearer servers first, and of two as far away of the one whose name
-- comes first.
use Rattle.std.proofs.Common.{◌≡◌, ℕ, ◌+◌, Bool, true, false, cond, not, Some, None, List, []}
use Rattle.std.proofs.Common.{◌∷◌, map, filter, drop, nat_eq, nat_lt, refl, sym, ◌∙◌, ap}
use Rattle.std.proofs.Common.{one-add}
use Rattle.std.proofs.lemmas.Bool.{and_parts}
use Rattle.std.specs.declared.cmp.Ordering.{Ordering}
use Rattle.std.specs.declared.cmp.Ordering.TheVariants.{Less, Equal, Greater}
use Rattle.std.specs.Cmp.{tied_itself}
use Rattle.std.specs.Cmp.Lexicographic.{nat_list_cmp_total}
use Rattle.std.specs.FinMap.{entries_sorted, is_sorted}
use Rattle.std.specs.FinMap.Entries.{below_all, by_order, find, find-put, is_sorted-put, put}
use Rattle.std.specs.List.{fold, insert, prefix_len, AllByRecursion}
use Rattle.std.specs.Ordering.{is_eq, is_lt, ordering_reverse}
use Rattle.irc_names.specs.Lemmas.PlainFacts.{is_true}
use Rattle.irc_names.specs.Tables.{each, fold_cmp}
use Rattle.irc_names.specs.TableLaws.{one_fold, same_fold}
use Rattle.irc_tables.specs.FoldedRows.{IsInFoldedOrder}
use Rattle.irc_routes.specs.declared.server_row.ServerRow.{ServerRow}
use Rattle.irc_routes.specs.Known.{is_behind, is_told_before, others, put_among}
use Rattle.irc_routes.specs.Lemmas.TableRows.{held, values_each}
use Rattle.irc_routes.specs.Lemmas.RouteLaws.{entries_named}
use Rattle.irc_follow.specs.AtRest.{by_distance, ToldByDistance}
use Rattle.irc_follow.specs.Lemmas.NamedRows.{if_passes, passed_named}

abbrev key : ServerRow → List ℕ
key r = (by_distance r).0

pub before_is : (a b : ServerRow) → is_told_before a b ≡ is_lt (fold_cmp (key a) (key b))
before_is a b = by (nat_lt a.distance b.distance) (nat_eq a.distance b.distance)
    (fold_cmp a.name b.name) refl refl refl
  where
    by : (less tie : Bool) (o : Ordering) → nat_lt a.distance b.distance ≡ less
        → nat_eq a.distance b.distance ≡ tie → fold_cmp a.name b.name ≡ o
        → is_told_before a b ≡ is_lt (fold_cmp (key a) (key b))
    by true tie o e f g = cc
    by false true o e f g = cc
    by false false o e f g = cc

abbrev rest : List ServerRow → List (List ℕ × ServerRow)
rest = map by_distance

put_is : (rows : List ServerRow) (r : ServerRow) → find fold_cmp (key r) (map by_distance rows)
    ≡ None → map by_distance (put_among rows r) ≡ put fold_cmp (key r) r (map by_distance rows)
put_is [] r none = refl
put_is (x ∷ rows) r none = by (fold_cmp (key x) (key r)) refl (put_is rows r)
  where
    back : (o : Ordering) → fold_cmp (key x) (key r) ≡ o
        → fold_cmp (key r) (key x) ≡ ordering_reverse o
    back o e = nat_list_cmp_total.antisymm (key r) (key x) ∙ ap ordering_reverse e

    by : (o : Ordering) → fold_cmp (key x) (key r) ≡ o
        → (find fold_cmp (key r) (map by_distance rows) ≡ None → map by_distance (put_among rows r)
        ≡ put fold_cmp (key r) r (map by_distance rows)) → map by_distance
        (put_among (x ∷ rows) r) ≡ put fold_cmp (key r) r (map by_distance (x ∷ rows))
    by Less e later =
        ap (λ b. rest (insert (x ∷ rows) (cond b (1 + prefix_len
        (λ other. is_told_before other r) rows) 0) r)) (before_is x r ∙ ap is_lt e)
        ∙ ap (λ n. rest (insert (x ∷ rows) n r))
        (one-add (prefix_len (λ other. is_told_before other r) rows))
        ∙ ap (λ es. by_distance x ∷ es) (later (sym (ap (λ o. cond (is_eq o) (Some x)
        (find fold_cmp (key r) (rest rows))) (back Less e)) ∙ none))
        ∙ sym (ap (λ o. by_order o (by_distance r ∷ by_distance x ∷ rest rows) ((key x, r)
        ∷ rest rows) (by_distance x ∷ put fold_cmp (key r) r (rest rows))) (back Less e))
    by Greater e later =
        ap (λ b. rest (insert (x ∷ rows) (cond b (1 + prefix_len
        (λ other. is_told_before other r) rows) 0) r)) (before_is x r ∙ ap is_lt e)
        ∙ sym (ap (λ o. by_order o (by_distance r ∷ by_distance x ∷ rest rows) ((key x, r) ∷ rest
        rows) (by_distance x ∷ put fold_cmp (key r) r (rest rows))) (back Greater e))
    by Equal e later = absurd (let some = sym (ap (λ o. cond (is_eq o) (Some x)
        (find fold_cmp (key r) (rest rows))) (back Equal e)) ∙ none in cc some)

apart : (one other : ServerRow) → is_lt (fold_cmp one.name other.name) ≡ true
    → same_fold (key other) (key one) ≡ false
apart one other less = by (same_fold (key other) (key one)) refl
  where
    by : (b : Bool) → same_fold (key other) (key one) ≡ b → b ≡ false
    by false is = refl
    by true is = absurd (let clash =
        sym less ∙ ap (λ n. is_lt (fold_cmp one.name n))
        (ap (drop 1) (one_fold (key other) (key one) is))
        ∙ ap is_lt (tied_itself nat_list_cmp_total one.name) in cc clash)

abbrev Fresh : List ServerRow → ServerRow → Type 0
Fresh rows r = find fold_cmp (key r) (map by_distance rows) ≡ None

abbrev named : ServerRow → List ℕ × ServerRow
named r = (r.name, r)

still_fresh : (so_far : List ServerRow) (r : ServerRow) (rows : List ServerRow) → Fresh so_far r
    → below_all fold_cmp r.name (map named rows) ≡ true → AllByRecursion (Fresh so_far) rows
    → AllByRecursion (Fresh (put_among so_far r)) rows
still_fresh so_far r [] new below fresh = fresh
still_fresh so_far r (x ∷ rows) new below fresh =
    let parts = and_parts _ _ below in (
      ap (find fold_cmp (key x)) (put_is so_far r new)
          ∙ find-put fold_cmp nat_list_cmp_total (key x) (key r) r (map by_distance so_far)
          ∙ ap (λ b. cond b (Some r) (find fold_cmp (key x) (map by_distance so_far)))
          (apart r x parts.0)
          ∙ fresh.0,
      still_fresh so_far r rows new parts.1 fresh.1,
    )

in_turn : (so_far rows : List ServerRow) → is_sorted fold_cmp (map named rows) ≡ true
    → AllByRecursion (Fresh so_far) rows → is_sorted fold_cmp (map by_distance so_far) ≡ true
    → is_sorted fold_cmp (map by_distance (fold put_among so_far rows)) ≡ true
in_turn so_far [] rise fresh sorted = sorted
in_turn so_far (r ∷ rows) rise fresh sorted =
    let parts = and_parts _ _ rise in
    in_turn (put_among so_far r) rows parts.1 (still_fresh so_far r rows fresh.0 parts.0 fresh.1)
    (ap (is_sorted fold_cmp) (put_is so_far r fresh.0)
    ∙ is_true _ (is_sorted-put fold_cmp nat_list_cmp_total (key r) r (map by_distance so_far)
    (held _ sorted)))

none_yet : (rows : List ServerRow) → AllByRecursion (Fresh []) rows
none_yet [] = tt
none_yet (r ∷ rows) = (refl, none_yet rows)

pub told_by_distance : ToldByDistance
unfolding IsInFoldedOrder
told_by_distance known link numbered =
    let p : ServerRow → Bool = λ r. not (is_behind link r) in
    let name : ServerRow → List ℕ = λ r. r.name in
    let kept = each (if_passes name p) known.rows in
    in_turn [] (filter p (others known))
    (ap (λ rows. is_sorted fold_cmp (map named rows))
    (sym (values_each p (if_passes name p) (λ x. refl) known.rows))
    ∙ ap (is_sorted fold_cmp) (entries_named name kept
    (passed_named name known.rows p (λ q r is. (numbered.rows q r is).named)))
    ∙ is_true _ (entries_sorted kept))
    (none_yet (filter p (others known))) refl
