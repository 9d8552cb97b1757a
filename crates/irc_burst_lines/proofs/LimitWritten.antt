-- A limit is short, written.
use Rattle.std.proofs.Common.{ℕ, ◌≤◌, ◌<◌, length, decimal, arith}
use Rattle.std.proofs.lemmas.Fmt.{length-decimal-le}
use Rattle.irc_modes.specs.Limits.{max_mode_word}

pub limit_fits : (n : ℕ) → n < 65536 → length (decimal n) ≤ max_mode_word
limit_fits n small =
    let few : length (decimal n) ≤ 5 =
    length-decimal-le 5 n (omega arith) (omega (arith, small)) (omega (arith, small)) in
    omega (arith, few)
