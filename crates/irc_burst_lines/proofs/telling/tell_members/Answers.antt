use Rattle.std.proofs.Common.{◌∙◌, ap, rules, arith}
use Rattle.irc_merge.specs.Bursts.{members_a_line}
use Rattle.irc_burst_lines.specs.DeedLines.{njoin_parts}
use Rattle.irc_burst_lines.specs.Loops.Telling.{told_members}
use Rattle.irc_burst_lines.proofs.Chunks.{smaller}
use Rattle.irc_burst_lines.proofs.NjoinPieces.{members_taken, members_left, members_some}
use Rattle.irc_burst_lines.proofs.NjoinPieces.{members_none}
use Rattle.irc_burst_lines.proofs.Told.{lines_told, lines_done}
use Rattle.irc_burst_lines.proofs.telling.tell_members.Goals as goal

pub loop-rest-smaller : goal.loop-rest-smaller
loop-rest-smaller c =
    smaller members_a_line c.loop-rest.rest.now _ c.behind-rest.ensures (omega arith) (search rules)

pub loop-rest-preserved : goal.loop-rest-preserved
loop-rest-preserved c =
    lines_told (njoin_parts c.args.server.now c.args.channel.now) members_a_line _ _ _ _
    (told_members c.loop-rest.rest.now) _ _ (omega arith)
    (members_some c.loop-rest.rest.now (search rules))
    (ap told_members c.front.ensures ∙ members_taken members_a_line c.loop-rest.rest.now)
    (ap told_members c.behind-rest.ensures ∙ members_left members_a_line c.loop-rest.rest.now)
    c.in_ok-put.ensures c.njoin_text.ensures c.loop-rest.invariant

pub returns : goal.returns
returns c =
    lines_done (njoin_parts c.args.server.now c.args.channel.now) members_a_line _ _
    (told_members c.loop-rest.rest.now) (members_none c.loop-rest.rest.now (search rules))
    c.loop-rest.invariant
