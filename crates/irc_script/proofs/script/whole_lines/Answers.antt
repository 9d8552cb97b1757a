use Rattle.std.proofs.Common.{◌∙◌, sym}
use Rattle.irc_script.proofs.LineEnds.{is_empty-length, dropped_now, kept_now}
use Rattle.irc_script.proofs.script.whole_lines.Goals as goal

pub returns-then-is_empty : goal.returns-then-is_empty
returns-then-is_empty c =
    dropped_now c.args.pieces.now c.in-Some.lines.now c.in-Some.last.now c.in-Some.ensures.cases.0
    (is_empty-length c.in-Some.last.now.now ∙ sym c.is_empty.ensures ∙ c.if-is_empty.true)

pub returns-else-is_empty : goal.returns-else-is_empty
returns-else-is_empty c =
    kept_now c.args.pieces.now c.in-Some.lines.now c.in-Some.last.now c.in-Some.ensures.cases.0
    (is_empty-length c.in-Some.last.now.now ∙ sym c.is_empty.ensures ∙ c.if-is_empty.false)
