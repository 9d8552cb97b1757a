use Rattle.irc_link_reader.proofs.ChangesTold.{topic_line_told}
use Rattle.irc_link_reader.specs.Loops.Readings.{reader}
use Rattle.irc_link_reader.proofs.reading_channels.topic_line.Goals as goal

pub returns : goal.returns
returns c =
    topic_line_told (reader c.args.at) c.args.name.now c.args.params c.next.new.self
    c.next-2.new.self c.in_ok-channel.channel.now c.in_ok-text.text.now c.in_ok-text-2.text
    c.in_ok-channel-2.channel _ c.in_ok-doer.doer c.topic_told.result c.in_ok-channel.ensures
    c.in_ok-text.ensures c.in_ok-end.ensures.done c.in_ok-text-2.ensures
    c.in_ok-expect_from.ensures c.in_ok-doer.ensures c.in_ok-channel-2.ensures
    c.topic_told.ensures
