-- How many are found, row by row.
use Rattle.std.proofs.Common.{◌≡◌, suc, cond, is_some, Option, Some, None, List, [], ◌∷◌, map}
use Rattle.std.proofs.Common.{filter, length, refl, ap}
use Rattle.std.specs.List.{cons_option, filter_map}

-- as many rows pass the test as give something
pub count_found : {A B C : Type 0} (give : B → Option C) (entry : A → B) (rows : List A) → length
    (filter (λ row. is_some (give (entry row))) rows) ≡ length (filter_map give (map entry rows))
count_found give entry [] = refl
count_found {A = A} {B = B} {C = C} give entry (row ∷ rows) =
    by_gift (give (entry row)) (count_found give entry rows)
  where
    by_gift : (gift : Option C) → length (filter (λ r. is_some (give (entry r))) rows)
        ≡ length (filter_map give (map entry rows)) → length (cond (is_some gift) (row ∷ filter
        (λ r. is_some (give (entry r))) rows) (filter (λ r. is_some (give (entry r))) rows))
        ≡ length (cons_option gift (filter_map give (map entry rows)))
    by_gift None later = later
    by_gift (Some c) later = ap (λ n. suc n) later
