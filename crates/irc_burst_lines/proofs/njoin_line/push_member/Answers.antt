use Rattle.std.proofs.Common.{[], ◌++◌, ◌∙◌, ap, codes, if◌then◌else◌}
use Rattle.irc_line.specs.Bytes.{cut}
use Rattle.irc_burst_lines.specs.DeedLines.{member_text}
use Rattle.irc_burst_lines.proofs.NjoinPieces.{member_pushed}
use Rattle.irc_burst_lines.proofs.njoin_line.push_member.Goals as goal

pub returns-clause-pushed : goal.returns-clause-pushed
returns-clause-pushed c =
    let old = c.args.line.now.items in
    let member = c.args.member.now in
    let nick = c.as_bytes.result.now in
    member_pushed old _ _ _ c.operator_mark.result.now c.voice_mark.result.now nick
    c.push_cut.ensures.appended c.push_cut-2.ensures.appended
    c.push_cut-3.ensures.appended
    ∙ ap (λ mark. cut (old ++ (mark ++ c.voice_mark.result.now ++ nick))) c.operator_mark.ensures
    ∙ ap (λ mark. cut (old ++ ((if member.flags.op then codes "@" else []) ++ mark ++ nick)))
    c.voice_mark.ensures
    ∙ ap (λ nick. cut (old ++ member_text (nick, member.flags))) c.as_bytes.ensures.value
