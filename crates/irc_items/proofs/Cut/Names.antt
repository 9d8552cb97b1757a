-- The servers of a side, listed: each stands there once, and just those of the side do.
use Rattle.std.proofs.Common.{◌≡◌, ℕ, Bool, true, false, cond, not, ◌||◌, is_some, Some, None}
use Rattle.std.proofs.Common.{List, [], ◌∷◌, map, refl, ◌∙◌, ap}
use Rattle.std.proofs.lemmas.Bool.{and_from, and_parts}
use Rattle.std.specs.Cmp.Lexicographic.{texts_ties}
use Rattle.std.specs.declared.cmp.Ordering.{Ordering}
use Rattle.std.specs.declared.cmp.Ordering.TheVariants.{Less, Equal, Greater}
use Rattle.std.specs.FinMap.{entries, entries_sorted, is_sorted, keys}
use Rattle.std.specs.FinMap.Entries.{below_all}
use Rattle.std.specs.List.{list_any}
use Rattle.std.specs.Ordering.{is_eq, is_lt}
use Rattle.irc_names.specs.Lemmas.PlainFacts.{is_true}
use Rattle.irc_merge.specs.Split.{are_distinct}
use Rattle.irc_names.specs.Spellings.{exactly_same}
use Rattle.irc_names.specs.Tables.{Table, fold_cmp, tabulate}
use Rattle.irc_names.specs.TableLaws.{row-keys, row-tabulate, same_fold}
use Rattle.irc_relay.specs.Distances.{IsAmong}
use Rattle.irc_relay.specs.Links.{Name, same}
use Rattle.irc_world.specs.World.{Setting, servers_where}
use Rattle.irc_follow.specs.SideState.{ItemSetting, IsItemSetting}
use Rattle.irc_follow.specs.Lemmas.NamedRows.{listed, names_of}

-- ---- each once

less_is_other : (r : Ordering) → is_lt r ≡ true → is_eq r ≡ false
less_is_other Less is = refl
less_is_other Equal is = absurd (cc is)
less_is_other Greater is = absurd (cc is)

abbrev folds_of : {X : Type 0} → List (List ℕ × X) → List (List ℕ)
folds_of es = map (λ e. e.0) es

-- one below all others is none of them
below_is_none : {X : Type 0} (fold : List ℕ) (es : List (List ℕ × X))
    → below_all fold_cmp fold es ≡ true → list_any (exactly_same fold) (folds_of es) ≡ false
below_is_none fold [] below = refl
below_is_none fold (e ∷ es) below =
    let parts = and_parts (is_lt (fold_cmp fold e.0)) (below_all fold_cmp fold es) below in
    ap (λ b. b || list_any (exactly_same fold) (folds_of es))
    (texts_ties fold e.0 ∙ less_is_other (fold_cmp fold e.0) parts.0)
    ∙ below_is_none fold es parts.1

sorted_distinct : {X : Type 0} (es : List (List ℕ × X)) → is_sorted fold_cmp es ≡ true
    → are_distinct (folds_of es) ≡ true
sorted_distinct [] rise = refl
sorted_distinct (e ∷ es) rise =
    let parts = and_parts (below_all fold_cmp e.0 es) (is_sorted fold_cmp es) rise in
    and_from _ _ (ap not (below_is_none e.0 es parts.0)) (sorted_distinct es parts.1)

pub keys_distinct : {X : Type 0} (table : Table X) → are_distinct (keys table) ≡ true
keys_distinct table = sorted_distinct (entries table)
    (is_true (is_sorted fold_cmp (entries table)) (entries_sorted table))

pub servers_distinct : (settings : List Setting) (test : Name → Bool)
    → are_distinct (servers_where settings test) ≡ true
servers_distinct settings test =
    keys_distinct (tabulate (names_of settings) (λ server. cond (test server) (Some (tt {0})) None))

-- ---- just those that pass

by_bytes : (x : Name) (names : List Name) → list_any (same x) names ≡ list_any (same_fold x) names
by_bytes x [] = refl
by_bytes x (name ∷ names) = λ i. texts_ties x name i || by_bytes x names i

is_there : (b : Bool) → is_some (cond b (Some (tt {0})) None) ≡ b
is_there true = refl
is_there false = refl

pub listed_where : (s : ItemSetting) (test : Name → Bool) (x : Name) → IsItemSetting s
    → IsAmong s.names x → list_any (same x) (servers_where s.settings test) ≡ test x
listed_where s test x fixed among =
    by_bytes x (servers_where s.settings test)
    ∙ row-keys
    (tabulate (names_of s.settings) (λ server. cond (test server) (Some (tt {0})) None)) x
    ∙ ap is_some
    (row-tabulate (names_of s.settings) (λ server. cond (test server) (Some (tt {0})) None) x)
    ∙ ap (λ b. is_some (cond b (cond (test x) (Some (tt {0})) None) None))
    (listed s.settings x ∙ fixed.listed x ∙ among)
    ∙ is_there (test x)
