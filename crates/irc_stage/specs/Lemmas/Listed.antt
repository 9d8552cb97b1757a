-- A finite map of entries in order has these entries.
use Rattle.std.proofs.Common.{◌≡◌, ℕ, T, true, Option, Some, None, List, [], ◌∷◌, refl, sym, ◌∙◌}
use Rattle.std.proofs.Common.{ap, map, filter_map, option_to_list}
use Rattle.std.proofs.lemmas.Bool.{and_from}
use Rattle.std.specs.declared.cmp.Ordering.TheVariants.{Less}
use Rattle.std.specs.BTreeMap.{BTreeMap}
use Rattle.std.specs.List.{AllByRecursion, cons_option}
use Rattle.std.specs.List.Sorted.{IsStrictlySortedBy}
use Rattle.std.specs.Map.{keys_of}
use Rattle.std.specs.Option.{option_and_then}
use Rattle.std.specs.Ordering.{is_lt, nat_cmp}
use Rattle.std.specs.Cmp.{nat_cmp_total}
use Rattle.std.specs.FinMap.{entries, entries-from_sorted, from_entries, from_sorted}
use Rattle.std.specs.FinMap.{get-from_entries, get-from_sorted, is_sorted, keys}
use Rattle.std.specs.FinMap.{nat_cmp-IsAntisymmetric, same_map}
use Rattle.std.specs.FinMap.Entries.{below_all}
use Rattle.irc_names.specs.Fold.{key}
use Rattle.irc_room.specs.Room.{Room}
use Rattle.irc_room.specs.Readers.{home_under}
use Rattle.irc_routes.specs.Known.{Known, link_key, next_hop}
use Rattle.irc_routes.specs.Lemmas.TableRows.{held}
use Rattle.irc_stage.specs.Ends.{End}
use Rattle.irc_stage.specs.Ways.{links_toward, met_links}
use Rattle.irc_stage.specs.Loops.Branching.{link_toward, met_among}
use Rattle.irc_stage.specs.Loops.Numbered.{numbered}

pub listed : {X : Type 0} (es : List (ℕ × X)) → T (is_sorted nat_cmp es)
    → entries (from_entries {R = nat_cmp} es) ≡ es
listed es rise =
    ap entries (same_map nat_cmp_total nat_cmp-IsAntisymmetric (from_entries es)
    (from_sorted es) (λ q.
    get-from_entries nat_cmp_total es q ∙ sym (get-from_sorted nat_cmp es q rise)))
    ∙ entries-from_sorted nat_cmp es rise

one_key : (hop : Option ℕ) → keys (from_entries {R = nat_cmp} (map link_key (option_to_list hop)))
    ≡ option_to_list hop
one_key None = ap (map (λ (e : ℕ × Unit {0}). e.0)) (listed [] tt)
one_key (Some link) = ap (map (λ (e : ℕ × Unit {0}). e.0)) (listed (link_key link ∷ []) tt)

one_hop : (known : Known) (home : Option (List ℕ)) → filter_map (next_hop known)
    (option_to_list home) ≡ option_to_list (option_and_then (next_hop known) home)
one_hop known None = refl
one_hop known (Some home) = by (next_hop known home)
  where
    by : (hop : Option ℕ) → cons_option hop [] ≡ option_to_list hop
    by None = refl
    by (Some link) = refl

-- the link toward the server of one user
pub toward_one : (room : Room) (known : Known) (nick : List ℕ) → links_toward known
    (option_to_list (home_under room (key nick))) ≡ option_to_list (link_toward room known nick)
toward_one room known nick =
    ap (λ hops. keys (from_entries {R = nat_cmp} (map link_key hops)))
    (one_hop known (home_under room (key nick))) ∙ one_key (link_toward room known nick)

-- the entries of the code's maps are in order

below : {X : Type 0} (number : ℕ) (es : List (ℕ × X)) → AllByRecursion
    (λ other. nat_cmp number other ≡ Less) (keys_of es) → below_all nat_cmp number es ≡ true
below number [] less = refl
below number (e ∷ es) less = and_from _ _ (ap is_lt less.0) (below number es less.1)

rising : {X : Type 0} (es : List (ℕ × X)) → IsStrictlySortedBy nat_cmp (keys_of es)
    → is_sorted nat_cmp es ≡ true
unfolding IsStrictlySortedBy
rising [] sorted = refl
rising (e ∷ es) sorted = and_from _ _ (below e.0 es sorted.0) (rising es sorted.1)

-- the links that count among the ends that the code's map shows
pub all_met : (ends : BTreeMap ℕ End) (shown : List (ℕ × End)) → IsStrictlySortedBy nat_cmp
    (keys_of ends.entries) → shown ≡ ends.entries → met_among shown ≡ met_links (numbered ends)
all_met ends shown sorted all =
    ap met_among (all ∙ sym (listed ends.entries (held _ (rising ends.entries sorted))))
