use Rattle.std.proofs.Common.{◌∙◌, sym}
use Rattle.std.proofs.lemmas.List.{take_rest}
use Rattle.irc_channel_commands.proofs.LimitWords.{one_zero, no_zero}
use Rattle.irc_channel_commands.proofs.judging.without_zeros.Goals as goal

pub loop-i-preserved : goal.loop-i-preserved
loop-i-preserved c =
    sym (one_zero c.args.digits.now c.loop-i.i 0 c.loop-i-test.true c.if-digit-ne48.false)
    ∙ c.loop-i.invariant

pub returns-then-digit-ne48 : goal.returns-then-digit-ne48
returns-then-digit-ne48 c =
    take_rest c.args.digits.now c.loop-i.i
    ∙ sym (no_zero c.args.digits.now c.loop-i.i 0 c.loop-i-test.true c.if-digit-ne48.true)
    ∙ c.loop-i.invariant
