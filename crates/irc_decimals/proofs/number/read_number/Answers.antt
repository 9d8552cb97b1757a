use Rattle.std.proofs.Common.{◌≡◌, ℕ, ◌<◌, ◌^◌, Result, Ok, Err, ap, sym, subst, ◌∙◌, true, false}
use Rattle.std.proofs.Common.{decimal}
use Rattle.std.proofs.lemmas.Fmt.{parse-decimal, IsAscii-decimal}
use Rattle.std.proofs.lemmas.Slice.Eq.{bytes_eq-Decides}
use Rattle.std.proofs.lemmas.Str.{IsUtf8-from_ascii}
use Rattle.std.specs.Str.{IsAscii}
use Rattle.irc_decimals.specs.Numbers.{writes}
use Rattle.irc_decimals.proofs.NumbersWritten.{written, not_written}
use Rattle.irc_decimals.proofs.number.read_number.Goals as goal

-- a result is not both
not_both : {E : Type 0} (r : Result ℕ E) (n : ℕ) (e : E) → r ≡ Ok n → r ≡ Err e → ⊥
not_both r n e p q = cc

-- a result is one
one_number : {E : Type 0} (r : Result ℕ E) (m n : ℕ) → r ≡ Ok m → r ≡ Ok n → m ≡ n
one_number r m n p q = cc

pub returns-in_default : goal.returns-in_default
returns-in_default c =
    sym (not_written c.args.word.now (λ n small e.
    c.in_default.ensures.cases.0
    (IsUtf8-from_ascii c.args.word.now (subst IsAscii (sym e) (IsAscii-decimal n small)))))

pub returns-in_default-parse : goal.returns-in_default-parse
returns-in_default-parse c =
    sym (not_written c.args.word.now (λ n small e.
    not_both c.parse.result n _
    (parse-decimal 64 n c.in-Ok.text.now c.parse.result small small
    (c.in-Ok.ensures.cases.0 ∙ e) c.parse.ensures.value.0) c.in_default-parse.is))

pub returns-then-writes : goal.returns-then-writes
returns-then-writes c =
    let read = c.in-Ok-parse.ensures.value.0 in
    sym (written c.args.word.now c.in-Ok-parse.number
    (subst (λ n. n < 2 ^ 64) (sym read.1) read.0.1)
    ((bytes_eq-Decides c.args.word.now (decimal c.in-Ok-parse.number)).0
    (sym c.writes.ensures ∙ c.if-writes.true)))

pub returns-else-writes : goal.returns-else-writes
returns-else-writes c =
    sym (not_written c.args.word.now (λ n small e.
    let same = one_number c.parse.result c.in-Ok-parse.number n c.in-Ok-parse.is
    (parse-decimal 64 n c.in-Ok.text.now c.parse.result small small
    (c.in-Ok.ensures.cases.0 ∙ e) c.parse.ensures.value.0) in
    let yes : writes c.in-Ok-parse.number c.args.word.now ≡ true =
    (bytes_eq-Decides c.args.word.now (decimal c.in-Ok-parse.number)).1 (e ∙ ap decimal (sym same))
    in
    let contrary : true ≡ false = sym yes ∙ sym c.writes.ensures ∙ c.if-writes.false in
    cc))
