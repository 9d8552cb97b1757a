use Rattle.std.proofs.Common.{◌++◌, ◌∙◌, ap, map}
use Rattle.std.proofs.lemmas.Iterator.Consumers.{YieldsList-at, YieldsList-end}
use Rattle.std.proofs.lemmas.Iterator.Consumers.{YieldsList-from_rest}
use Rattle.irc_stage.specs.Ways.{but}
use Rattle.irc_stage.specs.Lemmas.Listed.{all_met}
use Rattle.irc_stage.proofs.ways.add_met.Goals as goal

pub returns : goal.returns
returns c =
    let ends = c.args.ends.now in
    let seen = YieldsList-end
    (YieldsList-at c.into_iter-link-iterator.ensures.into_iter_gives
    (YieldsList-from_rest ends.entries c.iter-link-items.ensures.rest))
    c.loop-link.yielded _ c.loop-link.yielded_by _ _ c.in-None.is c.next.ensures.steps in
    c.loop-link.invariant
    ∙ ap (λ links. c.args.links.now.items ++ but c.args.arrival links) (all_met ends (map
    (λ e. (e.0.now, e.1.now)) c.loop-link.yielded) c.iter-link-items.ensures.ordered seen.0)
