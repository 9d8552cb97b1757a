use Rattle.std.proofs.Common.{◌≡◌, List, ◌∷◌, length, vec_len, sym, arith}
use Rattle.irc_relay.specs.declared.news.NewsSent.{NewsSent}
use Rattle.irc_relay.proofs.SettlingNews.{settling_start, settling_on, settled, first_apart}
use Rattle.irc_relay.proofs.SettlingNews.{first_fall, away_now, forest_now, first_of, none_left}
use Rattle.irc_relay.proofs.news.News.settle.Goals as goal

pub loop-self-init : goal.loop-self-init
loop-self-init c = settling_start c.args.source c.args.self.now c.requires.goes_away

pub deliver-requires : goal.deliver-requires
deliver-requires c =
    let long : vec_len c.loop-self.self.flying ≡ length c.loop-self.self.flying.items =
    omega arith in
    let found : (rest : List NewsSent) × (c.loop-self.self.flying.items ≡ c.index-next.result.now
    ∷ rest) = first_of c.loop-self.self.flying.items (vec_len c.loop-self.self.flying)
    c.index-next.result.now long (sym c.loop-self-test.ensures) c.index-next.ensures in
    first_apart c.args.source c.loop-self.self c.index-next.result.now found.0 (forest_now
    c.args.source c.args.self.now c.loop-self.self c.loop-self.invariant c.requires.forest)
    (away_now c.args.source c.args.self.now c.loop-self.self c.loop-self.invariant) found.1

pub loop-self-smaller : goal.loop-self-smaller
loop-self-smaller c =
    let long : vec_len c.loop-self.self.flying ≡ length c.loop-self.self.flying.items =
    omega arith in
    let found : (rest : List NewsSent) × (c.loop-self.self.flying.items ≡ c.index-next.result.now
    ∷ rest) = first_of c.loop-self.self.flying.items (vec_len c.loop-self.self.flying)
    c.index-next.result.now long (sym c.loop-self-test.ensures) c.index-next.ensures in
    first_fall c.args.source c.loop-self.self c.deliver.new.self c.index-next.result.now found.0
    c.in_ok-deliver.field-0 found.1 c.in_ok-deliver.ensures.edges c.in_ok-deliver.ensures.taken
    (forest_now c.args.source c.args.self.now c.loop-self.self
    c.loop-self.invariant c.requires.forest)
    (away_now c.args.source c.args.self.now c.loop-self.self c.loop-self.invariant)

pub loop-self-preserved : goal.loop-self-preserved
loop-self-preserved c =
    settling_on c.args.source c.args.self.now c.loop-self.self c.deliver.new.self c.requires.forest
    c.loop-self.invariant c.in_ok-deliver.ensures.edges c.in_ok-deliver.ensures.kept

pub returns : goal.returns
returns c =
    let long : vec_len c.loop-self.self.flying ≡ length c.loop-self.self.flying.items =
    omega arith in
    record {
      settled = settled c.args.source c.args.self.now c.loop-self.self
          (none_left c.loop-self.self.flying.items (vec_len c.loop-self.self.flying) long
          (sym c.loop-self-test.ensures)) c.loop-self.invariant.outcome;
    }
