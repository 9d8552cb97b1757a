use Rattle.irc_network.specs.Lemmas.FoundAtPlaces.{found_at}
use Rattle.irc_network.specs.Loops.Keeping.{kept_past}
use Rattle.irc_network.proofs.Places.{put_behind}
use Rattle.irc_network.proofs.kept.KeptHistory.add_line.Goals as goal

pub returns-in-Some : goal.returns-in-Some
returns-in-Some c =
    let past = kept_past c.args.self.now in
    put_behind c.push.result past c.args.earlier c.args.text.now c.in-Some.inbox.now c.push.new.self
    (found_at past.received c.args.earlier c.in-Some.inbox.now c.in-Some.ensures.item.3.0
    c.in-Some.ensures.item.1)
    c.push.ensures.received c.push.ensures.want
