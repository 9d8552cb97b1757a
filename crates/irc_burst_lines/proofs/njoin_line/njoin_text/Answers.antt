use Rattle.std.proofs.Common.{◌++◌, ◌∙◌, ap, codes, arith}
use Rattle.std.proofs.lemmas.Grind.{common_steps}
use Rattle.irc_line.specs.Bytes.{cut}
use Rattle.irc_burst_lines.proofs.NjoinPieces.{njoin_written}
use Rattle.irc_burst_lines.proofs.njoin_line.njoin_text.Goals as goal

pub returns : goal.returns
returns c =
    let head = c.push_head.ensures.head
    ∙ ap (λ name. cut (codes ":" ++ name ++ codes " NJOIN " ++ c.as_bytes-2.result.now
    ++ codes " ")) c.as_bytes.ensures.value
    ∙ ap (λ channel. cut (codes ":" ++ c.args.server.now ++ codes " NJOIN " ++ channel
    ++ codes " ")) c.as_bytes-2.ensures.value in
    njoin_written _ _ _ _ _ _ _ head c.push_cut.ensures.appended c.push_members.ensures.pushed
    (grind (arith, common_steps))
