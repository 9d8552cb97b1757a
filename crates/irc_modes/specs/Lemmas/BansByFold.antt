-- Bans as a table by their folds: what it answers at a mask; its values are the bans in order.
use Rattle.std.proofs.Common.{◌≡◌, ℕ, Bool, true, false, cond, ◌&&◌, T, Option, Some, None, List}
use Rattle.std.proofs.Common.{[], ◌∷◌, refl, sym, ◌∙◌, ap, subst, map}
use Rattle.std.proofs.lemmas.Bool.{and_parts}
use Rattle.std.proofs.lemmas.Option.{none-some, same_Some}
use Rattle.std.specs.Prelude.{find}
use Rattle.std.specs.List.{list_all, AllByRecursion}
use Rattle.std.specs.declared.cmp.Ordering.{Ordering}
use Rattle.std.specs.declared.cmp.Ordering.TheVariants.{Less, Equal, Greater}
use Rattle.std.specs.Ordering.{is_lt, is_eq}
use Rattle.std.specs.Cmp.Lexicographic.{nat_list_cmp_total}
use Rattle.std.specs.FinMap as finmap
use Rattle.std.specs.FinMap.{entries, entries_sorted, values, is_sorted, from_sorted, get-entries}
use Rattle.std.specs.FinMap.{get-from_entries, get-from_sorted, entries-from_sorted}
use Rattle.std.specs.FinMap.Entries.{below_all}
use Rattle.irc_names.specs.Lemmas.PlainFacts.{is_true}
use Rattle.irc_names.specs.Fold.{key, same}
use Rattle.irc_names.specs.FoldLaws.{same-ties}
use Rattle.irc_names.specs.Tables.{Table, fold_cmp, row}
use Rattle.irc_names.specs.TableLaws.{same_fold, same_fold-refl, one_fold, same_table}
use Rattle.irc_modes.specs.Bans.{before, rises, IsBanList}
use Rattle.irc_modes.specs.Joined.{by_fold}

-- a ban under its fold
abbrev pub entry : List ℕ → List ℕ × List ℕ
entry ban = (key ban, ban)

-- what stands at a fold in a list of entries
abbrev at : List (List ℕ × List ℕ) → List ℕ → Option (List ℕ)
at es fold = finmap.find fold_cmp fold es

-- ---- what the table answers

row-entries : (bans : List (List ℕ)) (fold : List ℕ)
    → row (by_fold bans) fold ≡ at (map entry bans) fold
row-entries bans fold = get-from_entries nat_list_cmp_total (map entry bans) fold

at_key : (bans : List (List ℕ)) (mask : List ℕ)
    → at (map entry bans) (key mask) ≡ find (same mask) bans
at_key [] mask = refl
at_key (ban ∷ bans) mask = λ i. cond (sym (same-ties mask ban) i) (Some ban) (at_key bans mask i)

-- at the fold of a mask the ban that is the same
pub row-by_fold : (bans : List (List ℕ)) (mask : List ℕ)
    → row (by_fold bans) (key mask) ≡ find (same mask) bans
row-by_fold bans mask = row-entries bans (key mask) ∙ at_key bans mask

-- ---- what is so of each row

abbrev pub EachRow : (List ℕ → List ℕ → Type 0) → Table (List ℕ) → Type 0
EachRow Q bans = (fold ban : List ℕ) → row bans fold ≡ Some ban → Q fold ban

-- each row stands at its own fold
abbrev pub AreKeyed : Table (List ℕ) → Type 0
AreKeyed = EachRow (λ fold ban. key ban ≡ fold)

module _ (Q : List ℕ → List ℕ → Type 0) where
  so_at : (bans : List (List ℕ)) → AllByRecursion (λ ban. Q (key ban) ban) bans
      → (fold ban : List ℕ) → at (map entry bans) fold ≡ Some ban → Q fold ban
  so_at [] so fold ban is = absurd (none-some ban is)
  so_at (next ∷ bans) so fold ban is =
      by (same_fold fold (key next)) refl is (so_at bans so.1 fold ban)
    where
      here : Some next ≡ Some ban → Q (key next) ban
      here is = subst (Q (key next)) (same_Some next ban is) so.0

      by : (b : Bool) → same_fold fold (key next) ≡ b
          → cond b (Some next) (at (map entry bans) fold) ≡ Some ban
          → (at (map entry bans) fold ≡ Some ban → Q fold ban) → Q fold ban
      by true one is more = subst (λ f. Q f ban) (sym (one_fold fold (key next) one)) (here is)
      by false other is more = more is

  -- what is so of each ban and its fold is so of each row
  pub rows-by_fold : (bans : List (List ℕ)) → AllByRecursion (λ ban. Q (key ban) ban) bans
      → EachRow Q (by_fold bans)
  rows-by_fold bans so fold ban is = so_at bans so fold ban (sym (row-entries bans fold) ∙ is)

pub keyed-by_fold : (bans : List (List ℕ)) → AreKeyed (by_fold bans)
keyed-by_fold bans = rows-by_fold (λ fold ban. key ban ≡ fold) bans (each bans)
  where
    each : (bans : List (List ℕ)) → AllByRecursion (λ ban. key ban ≡ key ban) bans
    each [] = tt
    each (ban ∷ bans) = (refl, each bans)

-- ---- bans in order

below_entries : (ban : List ℕ) (bans : List (List ℕ))
    → below_all fold_cmp (key ban) (map entry bans) ≡ list_all (before ban) bans
below_entries ban [] = refl
below_entries ban (next ∷ bans) = ap (λ b. before ban next && b) (below_entries ban bans)

sorted_entries : (bans : List (List ℕ)) → is_sorted fold_cmp (map entry bans) ≡ rises bans
sorted_entries [] = refl
sorted_entries (ban ∷ bans) = λ i. below_entries ban bans i && sorted_entries bans i

-- they are the entries of their table
pub entries-by_fold : (bans : List (List ℕ)) → IsBanList bans
    → entries (by_fold bans) ≡ map entry bans
entries-by_fold bans rising =
    let sorted : T (is_sorted fold_cmp (map entry bans)) =
    subst T (sym (sorted_entries bans ∙ rising)) tt in
    let alike : by_fold bans ≡ from_sorted (map entry bans) =
    same_table (by_fold bans) (from_sorted (map entry bans)) (λ fold.
    row-entries bans fold ∙ sym (get-from_sorted fold_cmp (map entry bans) fold sorted)) in
    ap entries alike ∙ entries-from_sorted fold_cmp (map entry bans) sorted

-- and its values
pub values-by_fold : (bans : List (List ℕ)) → IsBanList bans → values (by_fold bans) ≡ bans
values-by_fold bans rising = ap (map (λ e. e.1)) (entries-by_fold bans rising) ∙ seconds bans
  where
    seconds : (bans : List (List ℕ)) → map (λ e. e.1) (map entry bans) ≡ bans
    seconds [] = refl
    seconds (ban ∷ bans) = ap (λ more. ban ∷ more) (seconds bans)

-- two lists in order that answer alike at every fold are one
pub same_bans : (one other : List (List ℕ)) → IsBanList one → IsBanList other
    → ((fold : List ℕ) → row (by_fold one) fold ≡ row (by_fold other) fold) → one ≡ other
same_bans one other rising rising_too alike =
    sym (values-by_fold one rising)
    ∙ ap values (same_table (by_fold one) (by_fold other) alike)
    ∙ values-by_fold other rising_too

-- so are two that find the same ban for every mask
pub same_found : (one other : List (List ℕ)) → IsBanList one → IsBanList other
    → ((mask : List ℕ) → find (same mask) one ≡ find (same mask) other) → one ≡ other
same_found one other rising rising_too alike =
    same_bans one other rising rising_too (λ fold.
    by fold (row (by_fold one) fold) (row (by_fold other) fold) refl refl)
  where
    at_fold : (mask fold : List ℕ) → key mask ≡ fold
        → row (by_fold one) fold ≡ row (by_fold other) fold
    at_fold mask fold is =
        subst (λ f. row (by_fold one) f ≡ row (by_fold other) f) is
        (row-by_fold one mask ∙ alike mask ∙ sym (row-by_fold other mask))

    by : (fold : List ℕ) (here there : Option (List ℕ))
        → row (by_fold one) fold ≡ here → row (by_fold other) fold ≡ there
        → row (by_fold one) fold ≡ row (by_fold other) fold
    by fold (Some ban) there is is_too = at_fold ban fold (keyed-by_fold one fold ban is)
    by fold None (Some ban) is is_too = at_fold ban fold (keyed-by_fold other fold ban is_too)
    by fold None None is is_too = is ∙ sym is_too

-- ---- a table whose rows stand at their own folds

missed : (fold : List ℕ) (es : List (List ℕ × List ℕ)) → below_all fold_cmp fold es ≡ true
    → at es fold ≡ None
missed fold [] below = refl
missed fold (e ∷ es) below =
    let parts = and_parts _ _ below in
    by (fold_cmp fold e.0) parts.0 (missed fold es parts.1)
  where
    by : (r : Ordering) → is_lt r ≡ true → at es fold ≡ None
        → cond (is_eq r) (Some e.1) (at es fold) ≡ None
    by Less is rest = rest
    by Equal is rest = cc
    by Greater is rest = cc

-- what an entry behind the first has at its fold the whole list has there
at_behind : (e : List ℕ × List ℕ) (es : List (List ℕ × List ℕ)) (fold ban : List ℕ)
    → below_all fold_cmp e.0 es ≡ true → at es fold ≡ Some ban → at (e ∷ es) fold ≡ Some ban
at_behind e es fold ban below is = by (same_fold fold e.0) refl
  where
    by : (b : Bool) → same_fold fold e.0 ≡ b → cond b (Some e.1) (at es fold) ≡ Some ban
    by true one =
        let none : at es fold ≡ None = ap (at es) (one_fold fold e.0 one) ∙ missed e.0 es below in
        absurd (none-some ban (sym none ∙ is))
    by false other = is

so_of_entries : (Q : List ℕ → List ℕ → Type 0) (es : List (List ℕ × List ℕ))
    → is_sorted fold_cmp es ≡ true → ((fold ban : List ℕ) → at es fold ≡ Some ban → Q fold ban)
    → AllByRecursion (λ e. Q e.0 e.1) es
so_of_entries Q [] sorted so = tt
so_of_entries Q (e ∷ es) sorted so =
    let parts = and_parts _ _ sorted in
    let here = so e.0 e.1 (ap (λ b. cond b (Some e.1) (at es e.0)) (same_fold-refl e.0)) in
    let rest = so_of_entries Q es parts.1 (λ fold ban is.
    so fold ban (at_behind e es fold ban parts.0 is)) in
    (here, rest)

sorted_table : (bans : Table (List ℕ)) → is_sorted fold_cmp (entries bans) ≡ true
sorted_table bans = is_true (is_sorted fold_cmp (entries bans)) (entries_sorted bans)

-- what is so of each row is so of each entry
pub entries_so : (Q : List ℕ → List ℕ → Type 0) (bans : Table (List ℕ)) → EachRow Q bans
    → AllByRecursion (λ e. Q e.0 e.1) (entries bans)
entries_so Q bans so =
    so_of_entries Q (entries bans) (sorted_table bans) (λ fold ban is.
    so fold ban (get-entries bans fold ∙ is))

entries-keyed : (bans : Table (List ℕ)) → AreKeyed bans → map entry (values bans) ≡ entries bans
entries-keyed bans keyed = by (entries bans) (entries_so (λ fold ban. key ban ≡ fold) bans keyed)
  where
    by : (es : List (List ℕ × List ℕ)) → AllByRecursion (λ e. key e.1 ≡ e.0) es
        → map entry (map (λ e. e.1) es) ≡ es
    by [] so = refl
    by (e ∷ es) so = λ i. (so.0 i, e.1) ∷ by es so.1 i

-- its values are bans in order
pub rises-values : (bans : Table (List ℕ)) → AreKeyed bans → IsBanList (values bans)
rises-values bans keyed =
    sym (sorted_entries (values bans))
    ∙ ap (is_sorted fold_cmp) (entries-keyed bans keyed)
    ∙ sorted_table bans

-- and they make it again
pub by_fold-values : (bans : Table (List ℕ)) → AreKeyed bans → by_fold (values bans) ≡ bans
by_fold-values bans keyed = same_table (by_fold (values bans)) bans (λ fold.
    row-entries (values bans) fold
    ∙ ap (λ es. at es fold) (entries-keyed bans keyed)
    ∙ sym (get-entries bans fold))
