use Rattle.std.proofs.Common.{Some}
use Rattle.irc_burst_lines.specs.DeedLines.{topic_parts}
use Rattle.irc_server.specs.DeedTold.{deed_told}
use Rattle.irc_server.proofs.DeedsDone.{told_last}
use Rattle.irc_server.proofs.telling.top.Goals as goal

pub returns : goal.returns
unfolding deed_told
returns c =
    let topic = c.args.topic.now in
    told_last (Some c.args.link) _ (topic_parts topic.server topic.channel topic.text) _ _
    c.tell_all.result c.in_ok-raise_topic.ensures c.topic_text-line.ensures c.tell_all.ensures
