use Rattle.irc_names.specs.FoldLaws.{same-ties}
use Rattle.irc_names.proofs.LengthsApart.{lengths_apart}
use Rattle.irc_names.proofs.case_fold.same.Goals as goal

pub returns-then-left-right : goal.returns-then-left-right
returns-then-left-right c = rw (same-ties c.args.left.now c.args.right.now) (cc)

pub returns-else-left-right : goal.returns-else-left-right
returns-else-left-right c = lengths_apart c.args.left.now c.args.right.now c.if-left-right.false
