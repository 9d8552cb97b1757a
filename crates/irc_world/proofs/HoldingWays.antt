-- Between two servers there are fewer links than servers in their part.
use Rattle.std.proofs.Common.{◌≡◌, ℕ, ◌+◌, ◌<◌, suc, Bool, true, false, cond, ◌||◌, Some, None}
use Rattle.std.proofs.Common.{List, [], ◌∷◌, length, map, filter, count_by, refl, sym, ◌∙◌, ap}
use Rattle.std.proofs.Common.{subst, is_some, arith, if◌then◌else◌}
use Rattle.std.proofs.Math.Path.{fun_ext}
use Rattle.std.proofs.lemmas.List.Sums.{sum_by-cons}
use Rattle.std.specs.List.{list_any}
use Rattle.std.specs.FinMap.{entries, keys, retain_keys}
use Rattle.std.proofs.lemmas.Bool.{or_right}
use Rattle.irc_names.specs.Tables.{Table, tabulate}
use Rattle.irc_names.specs.TableLaws.{same_fold, same_fold-refl, one_fold, same_table, row-tabulate}
use Rattle.irc_names.specs.TableLaws.{row-keys}
use Rattle.irc_merge.specs.Lemmas.TableWords.{row-kept, entries_kept}
use Rattle.irc_relay.specs.Distances.{size_of_part, WaysAreShort}
use Rattle.irc_relay.specs.Links.{Name, same, Link, joined, distance}
use Rattle.irc_relay.specs.Lemmas.TellingNames.{Telling, alike, unlike, tell}
use Rattle.irc_world.specs.World.{Setting, setting_of, is_server, servers_where}
use Rattle.irc_world.specs.Bounds.{part_size}
use Rattle.irc_world.specs.Distances.{PartsHoldWays}

abbrev names_of : List Setting → List Name
names_of settings = map (λ (s : Setting). s.name) settings

abbrev passing : List Setting → (Name → Bool) → Table (Unit {0})
passing settings test =
    tabulate (names_of settings) (λ server. if test server then Some (tt {0}) else None)

abbrev anybody : Name → Bool
anybody server = true

-- ---- which servers there are

one_test : (s t : Name) → same s t ≡ same_fold s t
one_test s t = elim (tell s t) [
  | alike is e ↦ is ∙ sym (ap (same_fold s) (sym e) ∙ same_fold-refl s)
  | unlike is two ↦ is ∙ sym (by (same_fold s t) refl two)
]
  where
    by : (b : Bool) → same_fold s t ≡ b → (s ≡ t → ⊥) → b ≡ false
    by true one two = absurd (two (one_fold s t one))
    by false one two = refl

is_named : (settings : List Setting) (s : Name) → is_server settings s ≡ true
    → list_any (same_fold s) (names_of settings) ≡ true
is_named [] s there = cc
is_named (first ∷ settings) s there = by (tell first.name s) (is_named settings s)
  where
    by : Telling first.name s
        → (is_server settings s ≡ true → list_any (same_fold s) (names_of settings) ≡ true)
        → (same_fold s first.name || list_any (same_fold s) (names_of settings)) ≡ true
    by (alike _ e) later = ap (λ b. b || list_any (same_fold s) (names_of settings))
        (ap (same_fold s) e ∙ same_fold-refl s)
    by (unlike is _) later =
        or_right (same_fold s first.name) (list_any (same_fold s) (names_of settings))
        (later (sym (ap (λ b. is_some (if b then Some first else setting_of settings s)) is)
        ∙ there))

is_among : (settings : List Setting) (s : Name) → is_server settings s ≡ true
    → list_any (same s) (servers_where settings anybody) ≡ true
is_among settings s there =
    ap (λ test. list_any test (keys (passing settings anybody))) (fun_ext (one_test s))
    ∙ row-keys (passing settings anybody) s
    ∙ ap is_some (row-tabulate (names_of settings) (λ server. if anybody server then Some (tt {0})
    else None) s)
    ∙ ap (λ b. is_some (cond b (Some (tt {0})) None)) (is_named settings s there)

-- ---- how many of them pass a test

only_those : (settings : List Setting) (test : Name → Bool)
    → passing settings test ≡ retain_keys (passing settings anybody) test
only_those settings test =
    same_table (passing settings test) (retain_keys (passing settings anybody) test) (λ q.
    row-tabulate (names_of settings) (λ server. if test server then Some (tt {0}) else None) q
    ∙ by (list_any (same_fold q) (names_of settings)) (test q)
    ∙ sym (row-kept (passing settings anybody) test q
    ∙ ap (λ o. cond (test q) o None) (row-tabulate (names_of settings)
    (λ server. if anybody server then Some (tt {0}) else None) q)))
  where
    by : (there passes : Bool) → cond there (if passes then Some (tt {0}) else None) None
        ≡ cond passes (cond there (Some (tt {0})) None) None
    by true true = refl
    by true false = refl
    by false true = refl
    by false false = refl

one_more : (n : ℕ) → suc n ≡ cond {A = ℕ} true 1 0 + n
one_more n = omega arith

no_more : (n : ℕ) → n ≡ cond {A = ℕ} false 1 0 + n
no_more n = omega arith

counted_keys : (test : Name → Bool) (es : List (List ℕ × Unit {0}))
    → length (map (λ (e : List ℕ × Unit {0}). e.0) (filter (λ e. test e.0) es))
    ≡ count_by test (map (λ (e : List ℕ × Unit {0}). e.0) es)
counted_keys test [] = refl
counted_keys test (e ∷ es) =
    by (test e.0) (counted_keys test es)
    ∙ sym (sum_by-cons (λ x. cond (test x) 1 0) e.0 (map (λ (e : List ℕ × Unit {0}). e.0) es))
  where
    rest : List (List ℕ × Unit {0})
    rest = filter (λ e. test e.0) es

    by : (b : Bool) → length (map (λ (e : List ℕ × Unit {0}). e.0) rest)
        ≡ count_by test (map (λ (e : List ℕ × Unit {0}). e.0) es)
        → length (map (λ (e : List ℕ × Unit {0}). e.0) (cond b (e ∷ rest) rest))
        ≡ cond {A = ℕ} b 1 0 + count_by test (map (λ (e : List ℕ × Unit {0}). e.0) es)
    by true later = ap suc later ∙ one_more _
    by false later = later ∙ no_more _

part_counted : (settings : List Setting) (links : List Link) (s : Name)
    → part_size settings links s ≡ size_of_part (servers_where settings anybody) links s
part_counted settings links s =
    ap (λ (table : Table (Unit {0})). length (keys table)) (only_those settings (joined links s))
    ∙ ap (λ es. length (map (λ (e : List ℕ × Unit {0}). e.0) es))
    (entries_kept (passing settings anybody) (joined links s))
    ∙ counted_keys (joined links s) (entries (passing settings anybody))

pub parts_hold_ways : WaysAreShort → PartsHoldWays
parts_hold_ways short settings world s t sound known joined_so =
    subst (λ n. distance world.links s t < n) (sym (part_counted settings world.links s))
    (short (servers_where settings anybody) world.links s t sound.forest
    (λ u v linked_so. is_among settings u (sound.ends_known u v linked_so))
    (is_among settings s known) joined_so)
