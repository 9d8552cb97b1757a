use Rattle.std.proofs.Common.{◌∙◌, ap, rules, arith}
use Rattle.irc_line.specs.Messages.{text}
use Rattle.irc_burst_lines.specs.DeedLines.{mode_parts}
use Rattle.irc_burst_lines.proofs.Told.{lines_told, lines_done}
use Rattle.irc_burst_lines.proofs.telling.tell_changes.Goals as goal

pub loop-rest-preserved : goal.loop-rest-preserved
loop-rest-preserved c =
    lines_told (mode_parts c.args.server.now c.args.channel.now) 3 _ _ _ _ c.loop-rest.rest.now _ _
    (omega arith) (search rules) c.front.ensures
    c.behind-rest.ensures c.in_ok-put.ensures
    (c.mode_text.ensures ∙ ap (λ doer. text (mode_parts doer c.args.channel.now c.front.result.now))
    c.as_bytes.ensures.value) c.loop-rest.invariant

pub returns : goal.returns
returns c = lines_done (mode_parts c.args.server.now c.args.channel.now) 3 _ _ c.loop-rest.rest.now
    (search rules) c.loop-rest.invariant
