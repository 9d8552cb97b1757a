-- Words put right in their places.
use Rattle.std.proofs.Common.{ℕ, ◌≡◌, ◌<◌, ◌≤◌, zero, suc, Option, Some, None, List, [], ◌∷◌}
use Rattle.std.proofs.Common.{length}
use Rattle.std.proofs.Common.{get_or, set, refl, sym, ap, arith}
use Rattle.std.specs.Borrow.{Bor}
use Rattle.std.specs.Option.{option_map}
use Rattle.irc_line.specs.PartViews.{words_now}
use Rattle.irc_crossing.specs.Hearing.{word_now, words_now_at}

module _ (now : List ℕ → Option (List ℕ)) where
  -- the word at a place
  pub one_put_right : (place : ℕ) (words : List (Bor (List ℕ))) (none right : Bor (List ℕ))
      → place < length words → Some right.now ≡ word_now now (get_or words place none).now
      → words_now_at place now (words_now words) ≡ Some (words_now (set words place right))
  one_put_right place [] none right within is = absurd (omega (arith, within))
  one_put_right zero (word ∷ words) none right within is =
      ap (λ first. option_map (λ it. it ∷ words_now words) first) (sym is)
  one_put_right (suc place) (word ∷ words) none right within is =
      ap (λ rest. option_map (λ more. word.now ∷ more) rest)
      (one_put_right place words none right (omega (arith, within)) is)

  -- where whom it means is gone
  pub one_gone : (place : ℕ) (words : List (Bor (List ℕ))) (none : Bor (List ℕ))
      → place < length words → None ≡ word_now now (get_or words place none).now
      → words_now_at place now (words_now words) ≡ None
  one_gone place [] none within is = absurd (omega (arith, within))
  one_gone zero (word ∷ words) none within is =
      ap (λ first. option_map (λ it. it ∷ words_now words) first) (sym is)
  one_gone (suc place) (word ∷ words) none within is =
      ap (λ rest. option_map (λ more. word.now ∷ more) rest)
      (one_gone place words none (omega (arith, within)) is)

  -- no word at a place
  pub none_put_right : (place : ℕ) (words : List (Bor (List ℕ))) → length words ≤ place
      → words_now_at place now (words_now words) ≡ Some (words_now words)
  none_put_right zero [] past = refl
  none_put_right (suc place) [] past = refl
  none_put_right zero (word ∷ words) past = absurd (omega (arith, past))
  none_put_right (suc place) (word ∷ words) past =
      ap (λ rest. option_map (λ more. word.now ∷ more) rest)
      (none_put_right place words (omega (arith, past)))
