-- A row of a table whose value is changed where it stands, or taken out.
use Rattle.std.proofs.Common.{◌≡◌, ℕ, Bool, true, false, cond, Option, Some, None, List, refl, sym}
use Rattle.std.proofs.Common.{◌∙◌, ap, option_map, Result, Ok, Err, OnErr}
use Rattle.std.specs.Option.{option_and_then}
use Rattle.irc_names.specs.Tables.{Table, row, alter}
use Rattle.irc_names.specs.TableLaws.{same_fold, one_fold, row-alter, same_table}
use Rattle.irc_tables.specs.Lemmas.RowsAsTable.{alter-absent, alter_alike, said_goes, said_stays}

-- what follows of a fact of a result that is an error
pub err_also : {U E A B : Type 0} (result : Result U E) → (A → B) → OnErr result A → OnErr result B
err_also (Ok x) leads fact = tt
err_also (Err e) leads fact = leads fact

module _ {X : Type 0} (table : Table X) (at : List ℕ) where
  -- nothing is changed where nothing stands
  pub not_tried : (change : X → X) → row table at ≡ None
      → table ≡ alter at (option_map change) table
  not_tried change none =
      sym (alter-absent table at none)
      ∙ alter_alike table at (λ _. None) (option_map change) (ap (option_map change) (sym none))

  -- what stands there is put there
  pub put_again : (x w : X) → row table at ≡ Some x → w ≡ x → alter at (λ _. Some w) table ≡ table
  put_again x w there same =
      same_table _ _ (λ q. row-alter at (λ _. Some w) table q ∙ by q (same_fold q at) refl)
    where
      by : (q : List ℕ) (b : Bool) → same_fold q at ≡ b
          → cond b (Some w) (row table q) ≡ row table q
      by q true one = ap Some same ∙ sym there ∙ ap (row table) (sym (one_fold q at one))
      by q false other = refl

  pub put_changed : (change : X → X) (x w : X) → row table at ≡ Some x → w ≡ change x
      → alter at (λ _. Some w) table ≡ alter at (option_map change) table
  put_changed change x w there is =
      alter_alike table at (λ _. Some w) (option_map change)
      (ap Some is ∙ sym (ap (option_map change) there))

  -- nothing is changed or taken out where nothing stands
  pub not_there : (change : X → Option X) → row table at ≡ None
      → table ≡ alter at (option_and_then change) table
  not_there change none =
      sym (alter-absent table at none)
      ∙ alter_alike table at (λ _. None) (option_and_then change)
      (ap (option_and_then change) (sym none))

  -- what is put there and taken out is as if it were taken out at once
  taken_again : (w : X) → alter at (λ _. None) (alter at (λ _. Some w) table)
      ≡ alter at (λ _. None) table
  taken_again w = same_table _ _ (λ q.
      row-alter at (λ _. None) (alter at (λ _. Some w) table) q
      ∙ ap (cond (same_fold q at) None) (row-alter at (λ _. Some w) table q)
      ∙ by q (same_fold q at)
      ∙ sym (row-alter at (λ _. None) table q))
    where
      by : (q : List ℕ) (b : Bool)
          → cond b None (cond b (Some w) (row table q)) ≡ cond b None (row table q)
      by q true = refl
      by q false = refl

  module _ (change : X → Option X) (x w : X) (stays : Bool) (there : row table at ≡ Some x)
      (says : change x ≡ cond stays (Some w) None) where
    pub changed_stays : stays ≡ true
        → alter at (λ _. Some w) table ≡ alter at (option_and_then change) table
    changed_stays stands =
        alter_alike table at (λ _. Some w) (option_and_then change)
        (sym (ap (option_and_then change) there ∙ said_stays stays (change x) w says stands))

    pub changed_goes : stays ≡ false → alter at (λ _. None) (alter at (λ _. Some w) table)
        ≡ alter at (option_and_then change) table
    changed_goes ends =
        taken_again w
        ∙ alter_alike table at (λ _. None) (option_and_then change)
        (sym (ap (option_and_then change) there ∙ said_goes stays (change x) w says ends))
