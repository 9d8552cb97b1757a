-- What a table answers at a fold after a change of one row, and when it has a row at all.
use Rattle.std.proofs.Common.{◌≡◌, ℕ, Bool, true, false, cond, not, ◌||◌, if◌then◌else◌, Option}
use Rattle.std.proofs.Common.{None, List, [], ◌∷◌, refl, sym, ◌∙◌, ap, is_some, length}
use Rattle.std.proofs.Common.{Result, Ok, Err}
use Rattle.std.proofs.lemmas.List.{length-map}
use Rattle.std.specs.Prelude.{IfOk}
use Rattle.std.specs.List.{list_any}
use Rattle.std.specs.FinMap.{entries, keys, values}
use Rattle.std.proofs.Math.Bool.{false≢true}
use Rattle.irc_names.specs.Tables.{Table, row, alter}
use Rattle.irc_names.specs.TableLaws.{same_fold, same_fold-refl, one_fold, row-alter, row-keys}
use Rattle.irc_names.specs.TableLaws.{same_table}
use Rattle.irc_users.specs.declared.user.User.{User}
use Rattle.irc_modes.specs.Modes.{is_nil}

pub if_not : {X : Type 0} (b : Bool) (x y : X) → not b ≡ true → (if b then x else y) ≡ y
if_not true x y e = absurd (false≢true e)
if_not false x y e = refl

nil_has_none : (p : List ℕ → Bool) (folds : List (List ℕ)) → list_any p folds ≡ true
    → is_nil folds ≡ false
nil_has_none p [] found = cc
nil_has_none p (fold ∷ folds) found = refl

-- a table with a row has a key
pub some_key : {X : Type 0} (table : Table X) (q : List ℕ) → is_some (row table q) ≡ true
    → is_nil (keys table) ≡ false
some_key table q there = nil_has_none (same_fold q) (keys table) (row-keys table q ∙ there)

first_found : (folds : List (List ℕ)) → is_nil folds ≡ false
    → (q : List ℕ) × (list_any (same_fold q) folds ≡ true)
first_found [] some = absurd (false≢true (sym some))
first_found (fold ∷ folds) some =
    (fold, ap (λ b. b || list_any (same_fold fold) folds) (same_fold-refl fold))

-- and one with a key has a row
pub some_row : {X : Type 0} (table : Table X) → is_nil (keys table) ≡ false
    → (q : List ℕ) × (is_some (row table q) ≡ true)
some_row table some =
    let found = first_found (keys table) some in
    (found.0, sym (row-keys table found.0) ∙ found.1)

-- a table without a row at any fold has no key
pub no_row : {X : Type 0} (table : Table X) → ((q : List ℕ) → row table q ≡ None)
    → is_nil (keys table) ≡ true
no_row table none = by_test (is_nil (keys table)) refl
  where
    by_test : (b : Bool) → is_nil (keys table) ≡ b → b ≡ true
    by_test true e = refl
    by_test false e =
        let found =
        some_row table e in absurd (false≢true (sym (ap is_some (none found.0)) ∙ found.1))

-- a row that is changed into itself leaves the table as it is
pub alter_same : {X : Type 0} (fold : List ℕ) (change : Option X → Option X) (table : Table X)
    → change (row table fold) ≡ row table fold → alter fold change table ≡ table
alter_same fold change table is = same_table (alter fold change table) table
    (λ q. row-alter fold change table q ∙ by_fold q (same_fold q fold) refl)
  where
    by_fold : (q : List ℕ) (b : Bool) → same_fold q fold ≡ b
        → cond b (change (row table fold)) (row table q) ≡ row table q
    by_fold q true one = is ∙ ap (row table) (sym (one_fold q fold one))
    by_fold q false two = refl

pub found_also : {F E : Type 0} {A B : F → Type 0} (result : Result F E)
    → ((found : F) → A found → B found) → IfOk result A → IfOk result B
found_also (Ok found) follows known = follows found known
found_also (Err e) follows known = tt

pub users_counted : (users : Table User) → length (keys users) ≡ length (values users)
users_counted users =
    length-map (entries users) (λ e. e.0) ∙ sym (length-map (entries users) (λ e. e.1))
