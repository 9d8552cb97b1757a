use Rattle.std.proofs.Common.{Some, ◌∙◌, ap}
use Rattle.irc_burst_lines.specs.DeedLines.{squit_parts}
use Rattle.irc_server.specs.DeedTold.{deed_told, forgotten}
use Rattle.irc_server.proofs.DeedsDone.{told_last}
use Rattle.irc_server.proofs.telling.lose.Goals as goal

pub returns : goal.returns
unfolding deed_told
returns c =
    let loss = c.args.loss.now in
    told_last (Some c.args.link) _ (squit_parts loss.server loss.name loss.text) _ _
    c.tell_all.result (c.remove_server.ensures ∙ ap (forgotten loss.name) c.in_ok-serving.ensures)
    c.squit_text-line.ensures c.tell_all.ensures
