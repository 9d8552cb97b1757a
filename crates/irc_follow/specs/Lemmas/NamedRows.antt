-- Tables whose rows stand under their names: their keys, and when two have the same.
use Rattle.std.proofs.Common.{◌≡◌, ◌≢◌, ℕ, Bool, true, false, cond, ◌||◌, is_some, Option, Some}
use Rattle.std.proofs.Common.{None, List, [], ◌∷◌, map, filter, refl, sym, ◌∙◌, ap}
use Rattle.std.specs.FinMap.{entries, keys, values}
use Rattle.std.specs.List.{list_any}
use Rattle.std.specs.Option.{option_and_then}
use Rattle.std.proofs.lemmas.Option.{same_Some}
use Rattle.irc_names.specs.Tables.{Table, row, each}
use Rattle.irc_names.specs.TableLaws.{changed_entry, entries-each, one_fold, row-each, same_fold}
use Rattle.irc_names.specs.TableLaws.{same_fold-refl, same_table}
use Rattle.irc_relay.specs.Links.{Name}
use Rattle.irc_relay.specs.Lemmas.TellingNames.{Telling, alike, unlike, tell}
use Rattle.irc_routes.specs.Lemmas.TableRows.{values_each}
use Rattle.irc_routes.specs.Lemmas.RouteLaws.{entries_named}
use Rattle.irc_world.specs.World.{Setting, is_server, setting_of}

-- ---- keys

module _ {X : Type 0} (name : X → List ℕ) where
  under_names : (xs : List X)
      → map (λ (e : List ℕ × X). e.0) (map (λ x. (name x, x)) xs) ≡ map name xs
  under_names [] = refl
  under_names (x ∷ xs) = ap (λ names. name x ∷ names) (under_names xs)

  abbrev pub StandUnderNames : Table X → Type 0
  StandUnderNames table = (q : List ℕ) (x : X) → row table q ≡ Some x → name x ≡ q

  pub names_are_keys : (table : Table X) → StandUnderNames table
      → map name (values table) ≡ keys table
  names_are_keys table named = sym (under_names (values table))
      ∙ ap (map (λ (e : List ℕ × X). e.0)) (entries_named name table named)

  abbrev pub if_passes : (X → Bool) → X → Option X
  if_passes p x = cond (p x) (Some x) None

  pub passed_named : (table : Table X) (p : X → Bool) → StandUnderNames table
      → StandUnderNames (each (if_passes p) table)
  passed_named table p named q x there =
      by (row table q) refl (sym (row-each (if_passes p) table q) ∙ there)
    where
      by_test : (y : X) (b : Bool) → row table q ≡ Some y → cond b (Some y) None ≡ Some x
          → name x ≡ q
      by_test y true is one = ap name (sym (same_Some y x one)) ∙ named q y is
      by_test y false is one = absurd (cc one)

      by : (o : Option X) → row table q ≡ o → option_and_then (if_passes p) o ≡ Some x → name x ≡ q
      by None is one = absurd (cc one)
      by (Some y) is one = by_test y (p y) is one

  -- the names of the rows that pass a test
  pub names_passing : (table : Table X) (p : X → Bool) → StandUnderNames table
      → map name (filter p (values table)) ≡ keys (each (if_passes p) table)
  names_passing table p named =
      ap (map name) (sym (values_each p (if_passes p) (λ x. refl) table))
      ∙ names_are_keys (each (if_passes p) table) (passed_named table p named)

keys_changed : {X Y : Type 0} (change : X → Y) (es : List (List ℕ × X))
    → map (λ (e : List ℕ × Y). e.0) (map (changed_entry change) es)
    ≡ map (λ (e : List ℕ × X). e.0) es
keys_changed change [] = refl
keys_changed change (e ∷ es) = ap (λ names. e.0 ∷ names) (keys_changed change es)

abbrev pub mark : {X : Type 0} → X → Unit {0}
mark x = tt

-- the keys of a table are those of a set that has its folds
pub keys_of_set : {X : Type 0} (table : Table X) (set : Table (Unit {0})) → ((q : List ℕ)
    → option_and_then (λ x. Some (mark x)) (row table q) ≡ row set q) → keys table ≡ keys set
keys_of_set {X} table set one_each =
    sym (ap (map (λ (e : List ℕ × Unit {0}). e.0)) (entries-each (λ (x : X). mark x) table)
    ∙ keys_changed (λ (x : X). mark x) (entries table))
    ∙ ap keys (same_table (each (λ x. Some (mark x)) table) set
    (λ q. row-each (λ x. Some (mark x)) table q ∙ one_each q))

-- two marks are alike where each is there with the other
pub same_mark : (a b : Option (Unit {0})) → (a ≡ Some tt → b ≡ Some tt)
    → (b ≡ Some tt → a ≡ Some tt) → a ≡ b
same_mark None None there back = refl
same_mark (Some tt) b there back = sym (there refl)
same_mark None (Some tt) there back = back refl

-- ---- the names of servers

abbrev pub names_of : List Setting → List Name
names_of settings = map (λ (own : Setting). own.name) settings

pub apart_fold : (q name : Name) → name ≢ q → same_fold q name ≡ false
apart_fold q name two = by (same_fold q name) refl
  where
    by : (b : Bool) → same_fold q name ≡ b → b ≡ false
    by true one = absurd (two (sym (one_fold q name one)))
    by false apart = refl

-- just the servers that there are have their names among the names
pub listed : (settings : List Setting) (q : Name)
    → list_any (same_fold q) (names_of settings) ≡ is_server settings q
listed [] q = refl
listed (own ∷ settings) q = by (tell own.name q) (listed settings q)
  where
    by : Telling own.name q → list_any (same_fold q) (names_of settings) ≡ is_server settings q
        → list_any (same_fold q) (names_of (own ∷ settings)) ≡ is_server (own ∷ settings) q
    by (alike is e) later =
        ap (λ b. b || list_any (same_fold q) (names_of settings))
        (ap (same_fold q) e ∙ same_fold-refl q)
        ∙ sym (ap (λ b. is_some (cond b (Some own) (setting_of settings q))) is)
    by (unlike is two) later =
        ap (λ b. b || list_any (same_fold q) (names_of settings)) (apart_fold q own.name two)
        ∙ later
        ∙ sym (ap (λ b. is_some (cond b (Some own) (setting_of settings q))) is)
