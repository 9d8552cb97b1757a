use Rattle.std.proofs.Common.{◌≡◌, ◌≢◌, ◌<◌, length, get_or, slice_set, rules}
use Rattle.irc_relay.specs.Loops.Taking.{TakesOldest}
use Rattle.irc_relay.proofs.DeliveringNews.{new_item_at, known_item_at, kept_by_delivery}
use Rattle.irc_relay.proofs.news.News.deliver.Goals as goal

pub returns-in_ok-send_on-clause-taken : goal.returns-in_ok-send_on-clause-taken
returns-in_ok-send_on-clause-taken c =
    let at : c.from-place.result ≡ c.args.to = c.from-place.ensures in
    let fits : c.from-place.result < length c.args.self.now.latest = search rules in
    let fresh : c.in-Some.item ≢ get_or c.args.self.now.latest c.from-place.result 0 =
    c.if-item-self.true in
    let takes : TakesOldest c.args.from c.args.to c.in-Some.item c.args.self.now.flying.items
    c.take_oldest.new.flying.items = c.in-Some.ensures.some in (
      c.in-Some.item,
      new_item_at c.args.self.now.edges.items c.deref.result.now c.args.self.now.latest
          c.args.self.now.shown.items c.push.new.self.items c.args.self.now.flying.items
          c.take_oldest.new.flying.items c.send_on.new.flying.items c.args.from
          c.args.to c.from-place.result c.in-Some.item c.requires at fits fresh takes
          c.in_ok-push.ensures.items c.deref.ensures.value c.in_ok-send_on.ensures.sent,
    )

pub returns-in_ok-send_on-clause-kept : goal.returns-in_ok-send_on-clause-kept
returns-in_ok-send_on-clause-kept c =
    kept_by_delivery c.args.from c.args.to c.args.self.now (record {
      edges = c.args.self.now.edges;
      latest = slice_set c.args.self.now.latest c.from-place.result c.in-Some.item;
      shown =
          c.push.new.self;
      flying = c.send_on.new.flying;
    }) (returns-in_ok-send_on-clause-taken c)

pub returns-else-item-self-clause-taken : goal.returns-else-item-self-clause-taken
returns-else-item-self-clause-taken c = (
  c.in-Some.item,
  known_item_at c.args.self.now.edges.items c.args.self.now.latest c.args.self.now.shown.items
      c.args.self.now.flying.items c.take_oldest.new.flying.items c.args.from c.args.to
      c.from-place.result c.in-Some.item c.requires c.from-place.ensures c.if-item-self.false
      c.in-Some.ensures.some,
)

pub returns-else-item-self-clause-kept : goal.returns-else-item-self-clause-kept
returns-else-item-self-clause-kept c =
    kept_by_delivery c.args.from c.args.to c.args.self.now (record {
      edges = c.args.self.now.edges;
      latest = c.args.self.now.latest;
      shown = c.args.self.now.shown;
      flying = c.take_oldest.new.flying;
    }) (returns-else-item-self-clause-taken c)
