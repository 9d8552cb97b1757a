use Rattle.std.proofs.Common.{◌≡◌, ◌++◌, ◌∙◌, ap, slice_set}
use Rattle.irc_relay.specs.NewsNet.{PublishedGoesAway, sent_on}
use Rattle.irc_relay.proofs.DeliveringNews.{on_ok, published_goes_away}
use Rattle.irc_relay.proofs.news.News.publish.Goals as goal

pub returns-clause-goes_away : goal.returns-clause-goes_away
returns-clause-goes_away c =
    on_ok
    (c.send_on.new.flying.items ≡ c.args.self.now.flying.items
    ++ sent_on c.deref.result.now c.args.at c.args.at c.args.item)
    (PublishedGoesAway c.args.at c.args.self.now (record {
      edges = c.args.self.now.edges;
      latest = slice_set c.args.self.now.latest c.from.result c.args.item;
      shown = c.push.new.self;
      flying = c.send_on.new.flying;
    }))
    c.send_on.result
    (λ sent. published_goes_away c.args.self.now.edges.items c.args.self.now.flying.items
    c.send_on.new.flying.items c.args.self.now.latest (slice_set c.args.self.now.latest
    c.from.result c.args.item) c.args.self.now.shown.items c.push.new.self.items
    c.args.at c.args.item (sent ∙ ap (λ edges. c.args.self.now.flying.items
    ++ sent_on edges c.args.at c.args.at c.args.item) c.deref.ensures.value))
    c.send_on.ensures.sent
