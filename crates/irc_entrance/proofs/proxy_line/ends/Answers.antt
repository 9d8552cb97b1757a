use Rattle.irc_entrance.specs.ProxyLines.{is_space}
use Rattle.irc_entrance.proofs.ProxyWords.{fifth_word}
use Rattle.irc_entrance.proofs.proxy_line.ends.Goals as goal

pub returns-in-Some : goal.returns-in-Some
returns-in-Some c =
    fifth_word is_space c.in_ok-source.source.now c.in_ok-destination.destination.now
    c.in_ok-source_port.source_port.now c.in-Some.field-0.0.now c.args.text.now
    c.in_ok-source.rest.now c.in_ok-destination.rest.now
    c.in_ok-source_port.destination_port.now c.in-Some.field-0.1.now c.in_ok-source.ensures
    c.in_ok-destination.ensures c.in_ok-source_port.ensures c.in-Some.ensures
