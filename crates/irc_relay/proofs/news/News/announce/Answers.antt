use Rattle.std.proofs.Common.{◌<◌, length, rules}
use Rattle.irc_relay.specs.NewsNet.{HasSettled, HasAnnounced}
use Rattle.irc_relay.proofs.AnnouncingNews.{announced}
use Rattle.irc_relay.proofs.DeliveringNews.{on_ok}
use Rattle.irc_relay.proofs.news.News.announce.Goals as goal

pub returns : goal.returns
returns c =
    let there : c.args.source < length c.args.self.now.latest = search rules in
    record {
      announced =
          on_ok (HasSettled c.args.source c.publish.new.self c.settle.new.self) (HasAnnounced
          c.args.source c.args.item c.args.self.now c.settle.new.self) c.settle.result
          (announced c.args.self.now c.publish.new.self c.settle.new.self c.args.source c.args.item
          c.in_ok-publish.ensures.edges c.in_ok-publish.ensures.latest
          c.in_ok-publish.ensures.shown c.in_ok-publish.ensures.sent there c.requires.forest
          c.requires.rest c.requires.alike)
          c.settle.ensures.settled;
    }
