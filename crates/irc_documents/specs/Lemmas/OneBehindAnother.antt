-- Two lists of operations, one behind the other.
use Rattle.std.proofs.Common.{◌≡◌, List, [], ◌∷◌, ◌++◌, refl}
use Rattle.irc_documents.specs.Editing.{Editing}
use Rattle.irc_documents.specs.Lists.{all_done, AllMay}

module _ {Doc Op : Type 0} (e : Editing Doc Op) where
  pub done_behind : (s : Doc) (xs ys : List Op)
      → all_done e s (xs ++ ys) ≡ all_done e (all_done e s xs) ys
  done_behind s [] ys = refl
  done_behind s (x ∷ xs) ys = done_behind (e.done s x) xs ys

  pub may_join : (s : Doc) (xs ys : List Op) → AllMay e s xs → AllMay e (all_done e s xs) ys
      → AllMay e s (xs ++ ys)
  may_join s [] ys m n = n
  may_join s (x ∷ xs) ys m n = (m.0, may_join (e.done s x) xs ys m.1 n)

  pub may_front : (s : Doc) (xs ys : List Op) → AllMay e s (xs ++ ys) → AllMay e s xs
  may_front s [] ys m = tt
  may_front s (x ∷ xs) ys m = (m.0, may_front (e.done s x) xs ys m.1)

  pub may_rest : (s : Doc) (xs ys : List Op) → AllMay e s (xs ++ ys)
      → AllMay e (all_done e s xs) ys
  may_rest s [] ys m = m
  may_rest s (x ∷ xs) ys m = may_rest (e.done s x) xs ys m.1
