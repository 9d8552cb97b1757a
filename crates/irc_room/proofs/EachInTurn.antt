-- What is at each fold behind one change of the rows at some folds in turn, and when that is the
-- change of every row.
use Rattle.std.proofs.Common.{◌≡◌, ℕ, Bool, true, false, cond, ◌||◌, Option, Some, None, List, []}
use Rattle.std.proofs.Common.{◌∷◌, refl, sym, ◌∙◌, ap}
use Rattle.std.specs.Option.{option_and_then}
use Rattle.irc_names.specs.Tables.{Table, row, each}
use Rattle.irc_names.specs.TableLaws.{same_fold, one_fold, row-alter, row-each, row-keys}
use Rattle.irc_names.specs.TableLaws.{same_table}
use Rattle.irc_channels.specs.declared.channel.Channel.{Channel}
use Rattle.irc_room.specs.Indexes.{Names, Index, is_among, names_in, folds_of, is_named}
use Rattle.irc_room.specs.Indexes.{holds, Tells}
use Rattle.irc_room.specs.Loops.InTurn.{changed_at, in_turn}

-- the change does nothing the second time
module _ {X : Type 0} (change : X → Option X)
    (once : (x : X) → option_and_then change (change x) ≡ change x) where
  twice : (o : Option X) → option_and_then change (option_and_then change o)
      ≡ option_and_then change o
  twice None = refl
  twice (Some x) = once x

  row-in_turn : (names : List (List ℕ)) (table : Table X) (q : List ℕ)
      → row (in_turn change names table) q ≡ cond (is_named names q)
      (option_and_then change (row table q)) (row table q)
  row-in_turn [] table q = refl
  row-in_turn (name ∷ names) table q =
      row-in_turn names (changed_at change table name) q
      ∙ ap (λ o. cond (is_named names q) (option_and_then change o) o)
      (row-alter name (option_and_then change) table q)
      ∙ by_fold (same_fold q name) refl (is_named names q)
    where
      by_fold : (b : Bool) → same_fold q name ≡ b → (c : Bool) → cond c
          (option_and_then change (cond b (option_and_then change (row table name)) (row table q)))
          (cond b (option_and_then change (row table name)) (row table q))
          ≡ cond (b || c) (option_and_then change (row table q)) (row table q)
      by_fold true one true = twice (row table name)
          ∙ ap (λ f. option_and_then change (row table f)) (sym (one_fold q name one))
      by_fold true one false =
          ap (λ f. option_and_then change (row table f)) (sym (one_fold q name one))
      by_fold false two true = refl
      by_fold false two false = refl

  -- all that is not named is as the change leaves it
  pub all_in_turn : (one other : List (List ℕ)) (table : Table X) → ((q : List ℕ) → is_named one q
      ≡ false → is_named other q ≡ false → option_and_then change (row table q) ≡ row table q)
      → in_turn change other (in_turn change one table) ≡ each change table
  all_in_turn one other table rest =
      same_table (in_turn change other (in_turn change one table)) (each change table) (λ q.
      row-in_turn other (in_turn change one table) q
      ∙ ap (λ o. cond (is_named other q) (option_and_then change o) o) (row-in_turn one table q)
      ∙ by_names q (is_named one q) (is_named other q) refl refl
      ∙ sym (row-each change table q))
    where
      by_names : (q : List ℕ) (a b : Bool) → is_named one q ≡ a → is_named other q ≡ b → cond b
          (option_and_then change (cond a (option_and_then change (row table q)) (row table q)))
          (cond a (option_and_then change (row table q)) (row table q))
          ≡ option_and_then change (row table q)
      by_names q true true x y = twice (row table q)
      by_names q true false x y = refl
      by_names q false true x y = refl
      by_names q false false x y = sym (rest q x y)

among_named : (names : Option Names) (q : List ℕ)
    → is_named (folds_of (names_in names)) q ≡ is_among q names
among_named None q = refl
among_named (Some names) q = row-keys names q

-- the names by a nickname are those of the channels of which a test holds
pub named_told : (test : List ℕ → Channel → Bool) (index : Index)
    (channels : Table Channel) (nick : List ℕ) (es : List (List ℕ × Unit {0}))
    → Tells index (holds test channels) → es ≡ names_in (row index nick) → (q : List ℕ)
    → is_named (folds_of es) q ≡ holds test channels nick q
named_told test index channels nick es tells is q = ap (λ xs. is_named (folds_of xs) q) is
    ∙ among_named (row index nick) q ∙ tells.at nick q
