-- The names that stand by a nickname are those of the user's own channels, in their order.
use Rattle.std.specs.Prelude.{T}
use Rattle.std.proofs.Common.{◌≡◌, ℕ, Bool, true, false, cond, ◌&&◌, ◌||◌, Option, Some, None, List}
use Rattle.std.proofs.Common.{[], ◌∷◌, ◌++◌, refl, sym, ◌∙◌, ap, map, filter, is_some, option_map}
use Rattle.std.proofs.Common.{option_to_list, subst}
use Rattle.std.proofs.lemmas.List.{append_assoc}
use Rattle.std.specs.List.{AllByRecursion, list_any}
use Rattle.std.specs.Option.{option_map_or}
use Rattle.std.specs.Ordering.{eq_by_cmp, is_lt}
use Rattle.std.specs.Cmp.{IsTotalOrder}
use Rattle.std.specs.Cmp.Lexicographic.{nat_list_cmp_total}
use Rattle.std.specs.FinMap.{entries, entries_sorted, values, find, is_sorted, get-entries}
use Rattle.std.specs.FinMap.{slice_cmp-IsAntisymmetric, nat_cmp-IsAntisymmetric}
use Rattle.std.specs.FinMap.Entries.{below_all, where_key, find-where_key, is_sorted-where_key}
use Rattle.std.specs.FinMap.Entries.{same_entries}
use Rattle.irc_names.specs.Lemmas.PlainFacts.{is_true}
use Rattle.irc_names.specs.Tables.{Table, fold_cmp, row}
use Rattle.irc_tables.specs.Lemmas.OrderedEntries.{find-there, sorted-below}
use Rattle.irc_channels.specs.declared.channel.Channel.{Channel}
use Rattle.irc_channels.specs.Channels.{has_member}
use Rattle.irc_room.specs.Indexes.{Names, Index, is_among, names_in, holds, own_names}
use Rattle.irc_room.specs.Indexes.{entries_under, Tells}
use Rattle.irc_room.specs.Indexes.{joins_both}

order : IsTotalOrder fold_cmp
order = nat_list_cmp_total

abbrev name_of : {X : Type 0} → List ℕ × X → List ℕ × Unit {0}
name_of e = (e.0, tt)

-- ---- entries with other values

below_names : {X : Type 0} (x : List ℕ) (es : List (List ℕ × X))
    → below_all fold_cmp x (map name_of es) ≡ below_all fold_cmp x es
below_names x [] = refl
below_names x (e ∷ es) = ap (λ b. is_lt (fold_cmp x e.0) && b) (below_names x es)

sorted_names : {X : Type 0} (es : List (List ℕ × X))
    → is_sorted fold_cmp (map name_of es) ≡ is_sorted fold_cmp es
sorted_names [] = refl
sorted_names (e ∷ es) = ap (λ b. b && is_sorted fold_cmp (map name_of es)) (below_names e.0 es)
    ∙ ap (λ b. below_all fold_cmp e.0 es && b) (sorted_names es)

unit_of : {X : Type 0} → X → Unit {0}
unit_of x = tt

find_name : {X : Type 0} (q : List ℕ) (es : List (List ℕ × X))
    → find fold_cmp q (map name_of es) ≡ option_map unit_of (find fold_cmp q es)
find_name q [] = refl
find_name q (e ∷ es) = by_test (find_name q es) (eq_by_cmp fold_cmp q e.0)
  where
    by_test : find fold_cmp q (map name_of es) ≡ option_map unit_of (find fold_cmp q es)
        → (b : Bool) → cond b (Some tt) (find fold_cmp q (map name_of es))
        ≡ option_map unit_of (cond b (Some e.1) (find fold_cmp q es))
    by_test rest true = refl
    by_test rest false = rest

-- each entry of a table stands there
entries_at : {X : Type 0} (table : Table X) (front es : List (List ℕ × X))
    → front ++ es ≡ entries table → AllByRecursion (λ e. row table e.0 ≡ Some e.1) es
entries_at table front [] is = tt
entries_at table front (e ∷ es) is =
    let sorted : is_sorted fold_cmp (front ++ e ∷ es) ≡ true = ap (is_sorted fold_cmp) is
    ∙ is_true _ (entries_sorted table) in (
      get-entries table e.0 ∙ ap (find fold_cmp e.0) (sym is)
          ∙ find-there order e.0 e.1 front es (sorted-below order e.0 e.1 front es sorted),
      entries_at table (front ++ e ∷ []) es (append_assoc front (e ∷ []) es ∙ is),
    )

module _ (nick : List ℕ) (channels : Table Channel) where
  abbrev is_own : List ℕ × Channel → Bool
  is_own e = has_member nick e.1

  -- an entry passes by its name as it does by its channel
  by_value : (es : List (List ℕ × Channel)) → AllByRecursion (λ e. row channels e.0 ≡ Some e.1) es
      → where_key fold_cmp (holds has_member channels nick) es ≡ filter is_own es
  by_value [] at = refl
  by_value (e ∷ es) at =
      ap (λ o. cond (option_map_or (has_member nick) o false)
      (e ∷ where_key fold_cmp (holds has_member channels nick) es)
      (where_key fold_cmp (holds has_member channels nick) es)) at.0
      ∙ ap (λ xs. cond (has_member nick e.1) (e ∷ xs) xs) (by_value es at.1)

  all_at : AllByRecursion (λ e. row channels e.0 ≡ Some e.1) (entries channels)
  all_at = entries_at channels [] (entries channels) refl

  own_sorted : T (is_sorted fold_cmp
      (map name_of (where_key fold_cmp (holds has_member channels nick) (entries channels))))
  own_sorted =
      subst T (sym
      (sorted_names (where_key fold_cmp (holds has_member channels nick) (entries channels))))
      (is_sorted-where_key fold_cmp (holds has_member channels nick) (entries channels)
      (entries_sorted channels))

  by_bool : (r : Option (Unit {0})) (channel : Channel) (b : Bool) → is_some r ≡ b
      → r ≡ option_map unit_of (cond b (Some channel) None)
  by_bool None channel true is = cc
  by_bool None channel false is = refl
  by_bool (Some tt) channel true is = refl
  by_bool (Some tt) channel false is = cc

  one_name : (r : Option (Unit {0})) (o : Option Channel)
      → is_some r ≡ option_map_or (has_member nick) o false
      → r ≡ option_map unit_of (cond (option_map_or (has_member nick) o false) o None)
  one_name None None is = refl
  one_name (Some u) None is = cc
  one_name r (Some channel) is = by_bool r channel (has_member nick channel) is

  -- names in order, which are just those of own channels
  names_are : (ns : List (List ℕ × Unit {0})) → T (is_sorted fold_cmp ns)
      → ((c : List ℕ) → is_some (find fold_cmp c ns) ≡ holds has_member channels nick c)
      → ns ≡ own_names nick channels
  names_are ns sorted just =
      same_entries fold_cmp order (slice_cmp-IsAntisymmetric nat_cmp-IsAntisymmetric) ns
      (map name_of (where_key fold_cmp (holds has_member channels nick) (entries channels))) sorted
      own_sorted
      (λ q.
      one_name (find fold_cmp q ns) (row channels q) (just q)
      ∙ ap (λ o. option_map unit_of (cond (holds has_member channels nick q) o None))
      (get-entries channels q)
      ∙ ap (option_map unit_of)
      (sym (find-where_key fold_cmp (holds has_member channels nick) q
      (λ x tie. ap (holds has_member channels nick)
      (sym (slice_cmp-IsAntisymmetric nat_cmp-IsAntisymmetric q x tie))) (entries channels)))
      ∙ sym (find_name q (where_key fold_cmp (holds has_member channels nick) (entries channels))))
      ∙ ap (map name_of) (by_value (entries channels) all_at)

  pub names_told : (index : Index) → Tells index (holds has_member channels)
      → names_in (row index nick) ≡ own_names nick channels
  names_told index tells = by_row (row index nick) refl
    where
      by_row : (o : Option Names) → row index nick ≡ o → names_in o ≡ own_names nick channels
      by_row None here = names_are [] tt (λ c. sym (ap (is_among c) here) ∙ tells.at nick c)
      by_row (Some names) here =
          names_are (entries names) (entries_sorted names)
          (λ c. ap is_some (sym (get-entries names c)) ∙ sym (ap (is_among c) here)
          ∙ tells.at nick c)

  -- each name leads back to its channel
  each_found : (es : List (List ℕ × Channel)) → AllByRecursion (λ e. row channels e.0 ≡ Some e.1) es
      → entries_under channels (map name_of (filter is_own es)) ≡ filter is_own es
  each_found [] at = refl
  each_found (e ∷ es) at = by_test (each_found es at.1) (has_member nick e.1)
    where
      by_test : entries_under channels (map name_of (filter is_own es)) ≡ filter is_own es
          → (b : Bool)
          → entries_under channels (map name_of (cond b (e ∷ filter is_own es) (filter is_own es)))
          ≡ cond b (e ∷ filter is_own es) (filter is_own es)
      by_test rest true =
          ap (λ o. option_to_list (option_map (λ (channel : Channel). (e.0, channel)) o)
          ++ entries_under channels (map name_of (filter is_own es))) at.0
          ∙ ap (λ xs. e ∷ xs) rest
      by_test rest false = rest

  pub own_found : entries_under channels (own_names nick channels)
      ≡ filter is_own (entries channels)
  own_found = each_found (entries channels) all_at

  -- whether some own channel has another member, by the names
  any_shared : (other : List ℕ) (es : List (List ℕ × Channel))
      → AllByRecursion (λ e. row channels e.0 ≡ Some e.1) es
      → list_any (λ (n : List ℕ × Unit {0}). holds has_member channels other n.0)
      (map name_of (filter is_own es)) ≡ list_any (joins_both nick other) (map (λ e. e.1) es)
  any_shared other [] at = refl
  any_shared other (e ∷ es) at = by_test (any_shared other es at.1) (has_member nick e.1)
    where
      by_test : list_any (λ (n : List ℕ × Unit {0}). holds has_member channels other n.0)
          (map name_of (filter is_own es)) ≡ list_any (joins_both nick other) (map (λ e. e.1) es)
          → (b : Bool) → list_any (λ (n : List ℕ × Unit {0}). holds has_member channels other n.0)
          (map name_of (cond b (e ∷ filter is_own es) (filter is_own es)))
          ≡ ((b && has_member other e.1) || list_any (joins_both nick other) (map (λ e. e.1) es))
      by_test rest true =
          ap (λ o. option_map_or (has_member other) o false || list_any (λ (n : List ℕ × Unit {0}).
          holds has_member channels other n.0) (map name_of (filter is_own es))) at.0
          ∙ ap (λ b. has_member other e.1 || b) rest
      by_test rest false = rest

  pub own_shared : (other : List ℕ)
      → list_any (λ (n : List ℕ × Unit {0}). holds has_member channels other n.0)
      (own_names nick channels) ≡ list_any (joins_both nick other) (values channels)
  own_shared other = any_shared other (entries channels) all_at
