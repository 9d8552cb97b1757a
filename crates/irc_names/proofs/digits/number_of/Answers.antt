use Rattle.std.proofs.Common.{◌∙◌, ◌<◌, sym, ap, refl, arith, ◌+◌, ◌-◌, ◌*◌, get_or}
use Rattle.irc_names.proofs.DigitSteps.{number_more, below_first, below_next}
use Rattle.irc_names.proofs.digits.number_of.Goals as goal

pub loop-digit-init : goal.loop-digit-init
loop-digit-init c = record { so_far = refl; below = below_first }

pub overflow_mul-number : goal.overflow_mul-number
overflow_mul-number c = omega (arith, c.loop-digit.invariant.below.nine (omega arith))

pub overflow_add-number : goal.overflow_add-number
overflow_add-number c =
    omega (
      arith,
      c.loop-digit.invariant.below.nine (omega arith),
      c.from.ensures,
      c.type_inv.digits c.loop-digit.digit-index,
    )

pub loop-digit-preserved : goal.loop-digit-preserved
loop-digit-preserved c =
    let number = c.loop-digit.number in
    let i = c.loop-digit.digit-index in
    let byte : get_or c.args.digits.now i 0 < 256 = omega (arith, c.type_inv.digits i) in
    record {
      so_far =
          ap (λ d. 10 * number + d) c.from.ensures
          ∙ ap (λ n. 10 * n + (get_or c.args.digits.now i 0 - 48)) c.loop-digit.invariant.so_far
          ∙ sym (number_more c.args.digits.now i c.loop-digit-test.true);
      below = rw (c.from.ensures)
          (below_next i number (get_or c.args.digits.now i 0) c.loop-digit.invariant.below byte);
    }
