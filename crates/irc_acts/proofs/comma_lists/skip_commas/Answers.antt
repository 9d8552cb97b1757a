use Rattle.std.proofs.Common.{◌∙◌, sym, ap}
use Rattle.irc_acts.specs.CommaLists.{is_comma}
use Rattle.irc_acts.proofs.EntriesFromTheFront.{one_comma}
use Rattle.irc_acts.proofs.comma_lists.skip_commas.Goals as goal

pub loop-i-preserved : goal.loop-i-preserved
loop-i-preserved c =
    sym (one_comma c.args.list.now c.loop-i.i 0 c.loop-i-test.true
    (ap is_comma c.if-byte-ne-COMMA.false)) ∙ c.loop-i.invariant
