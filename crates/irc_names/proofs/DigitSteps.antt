-- The number that a few digits write, read one digit at a time.
use Rattle.std.proofs.Common.{◌≡◌, ℕ, ◌+◌, ◌-◌, ◌*◌, ◌<◌, ◌≤◌, List, length, get_or, take, arith}
use Rattle.std.proofs.lemmas.List.Sums.{fold_more}
use Rattle.irc_names.specs.Digits.{number_of}

-- one digit more
pub number_more : (digits : List ℕ) (i : ℕ) → i < length digits
    → number_of (take (i + 1) digits) ≡ 10 * number_of (take i digits) + (get_or digits i 0 - 48)
number_more digits i within = fold_more (λ n digit. 10 * n + (digit - 48)) 0 digits i 0 within

-- how much a few bytes write at most, if each is at most 255
pub record Below (count number : ℕ) : Type 0 where
  pub none : count ≤ 0 → number ≤ 0
  pub one : count ≤ 1 → number ≤ 207
  pub two : count ≤ 2 → number ≤ 2277
  pub three : count ≤ 3 → number ≤ 22977
  pub four : count ≤ 4 → number ≤ 229977
  pub five : count ≤ 5 → number ≤ 2299977
  pub six : count ≤ 6 → number ≤ 22999977
  pub seven : count ≤ 7 → number ≤ 229999977
  pub eight : count ≤ 8 → number ≤ 2299999977
  pub nine : count ≤ 9 → number ≤ 22999999977

pub below_first : Below 0 0
below_first = record {
  none = λ e. omega arith;
  one = λ e. omega arith;
  two = λ e. omega arith;
  three = λ e. omega arith;
  four = λ e. omega arith;
  five = λ e. omega arith;
  six = λ e. omega arith;
  seven = λ e. omega arith;
  eight = λ e. omega arith;
  nine = λ e. omega arith;
}

pub below_next : (count number digit : ℕ) → Below count number → digit < 256
    → Below (count + 1) (10 * number + (digit - 48))
below_next count number digit below byte = record {
  none = λ e. omega arith;
  one = λ e. omega (arith, below.none (omega arith));
  two = λ e. omega (arith, below.one (omega arith));
  three = λ e. omega (arith, below.two (omega arith));
  four = λ e. omega (arith, below.three (omega arith));
  five = λ e. omega (arith, below.four (omega arith));
  six = λ e. omega (arith, below.five (omega arith));
  seven = λ e. omega (arith, below.six (omega arith));
  eight = λ e. omega (arith, below.seven (omega arith));
  nine = λ e. omega (arith, below.eight (omega arith));
}
