-- A table whose names are short stays so.
use Rattle.std.proofs.Common.{◌≡◌, ◌<◌, ◌≤◌, ℕ, Bool, true, false, cond, Option, Some, None, List}
use Rattle.std.proofs.Common.{length, refl, sym, ◌∙◌, ap, arith, subst}
use Rattle.std.proofs.lemmas.List.{length-map}
use Rattle.std.specs.FinMap.{empty, get-empty}
use Rattle.irc_names.specs.Fold.{fold, key}
use Rattle.irc_names.specs.Limits.{max_channel}
use Rattle.irc_names.specs.Tables.{fold_cmp, Table, row, alter}
use Rattle.irc_names.specs.TableLaws.{same_fold, one_fold, row-alter}
use Rattle.irc_tables.specs.ShortNames.{HasShortNames}

pub none_at_first : (X : Type 0) → HasShortNames (empty {X = X} {R = fold_cmp})
none_at_first X = record { at = λ q long. get-empty fold_cmp q }

-- nothing stands under a long name
pub none_long : {X : Type 0} (table : Table X) (name : List ℕ) → HasShortNames table
    → max_channel < length name → row table (key name) ≡ None
none_long table name names long =
    names.at (key name) (subst (λ n. max_channel < n) (sym (length-map name fold)) long)

module _ {X : Type 0} (table : Table X) (at : List ℕ) (change : Option X → Option X)
    (names : HasShortNames table) where
  still : (max_channel < length at → change (row table at) ≡ None)
      → HasShortNames (alter at change table)
  still none =
      record { at = λ q long. row-alter at change table q ∙ by q long (same_fold q at) refl }
    where
      by : (q : List ℕ) → max_channel < length q → (b : Bool) → same_fold q at ≡ b
          → cond b (change (row table at)) (row table q) ≡ None
      by q long true one = none (subst (λ k. max_channel < length k) (one_fold q at one) long)
      by q long false other = names.at q long

  -- where nothing stands, nothing comes
  pub short_where_none : change None ≡ None → HasShortNames (alter at change table)
  short_where_none none = still (λ long. ap change (names.at at long) ∙ none)

  -- where something stands, anything may
  pub short_where_some : (x : X) → row table at ≡ Some x → HasShortNames (alter at change table)
  short_where_some x there = still (λ long. cc (sym (names.at at long) ∙ there))

-- anything may stand under a short name
pub short_under : {X : Type 0} (table : Table X) (name : List ℕ) (change : Option X → Option X)
    → HasShortNames table → length name ≤ max_channel
    → HasShortNames (alter (key name) change table)
short_under table name change names short =
    still table (key name) change names (λ long. let size = length-map name fold in
    absurd (omega (arith, size, long, short)))
