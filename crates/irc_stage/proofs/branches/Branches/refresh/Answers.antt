use Rattle.std.proofs.Common.{◌∙◌, ◌++◌, unwrap_or, ap, eqb, filter_map, map, sym}
use Rattle.std.proofs.lemmas.List.Filters.{dedup_is}
use Rattle.std.specs.Ordering.{nat_cmp}
use Rattle.std.specs.FinMap.{keys, from_entries}
use Rattle.irc_routes.specs.Known.{link_key, next_hop}
use Rattle.irc_routes.specs.Lemmas.DistinctLinks.{sorted_once}
use Rattle.irc_stage.specs.Ways.{homes_in, homes_of, links_toward}
use Rattle.irc_stage.specs.Loops.Branching.{hops_of}
use Rattle.irc_stage.proofs.Branching.{hops_are, kept_of}
use Rattle.irc_stage.proofs.branches.Branches.refresh.Goals as goal

pub returns-then-are_of-clause-found : goal.returns-then-are_of-clause-found
returns-then-are_of-clause-found c =
    kept_of c.args.self.now c.args.room.now.room c.args.routes.now c.args.channel.now c.requires
    (sym c.are_of.ensures ∙ c.if-are_of.true)

pub returns-clause-found : goal.returns-clause-found
returns-clause-found c =
    let room = c.args.room.now.room in
    let known = c.args.routes.now in
    dedup_is eqb _ _ c.dedup.ensures.filtered
    ∙ sorted_once _ _ c.sort_unstable.ensures.permutation c.sort_unstable.ensures.sorted
    ∙ ap (λ links. keys (from_entries {R = nat_cmp} (map link_key links)))
    (c.in_ok-add_hops.ensures ∙ ap (λ links. links ++ hops_of room known c.as_slice.result.now)
    c.clear-2.ensures.items ∙ hops_are room known _ ∙ ap (λ nicks. filter_map (next_hop known)
    (homes_of room nicks)) (c.as_slice.ensures.value ∙ c.in_ok-nicks.ensures))

pub returns-clause-so : goal.returns-clause-so
returns-clause-so c = λ channel is.
    returns-clause-found c
    ∙ ap (λ name. links_toward c.args.routes.now (homes_in c.args.room.now.room name))
    (sym c.copy.ensures ∙ ap (λ o. unwrap_or o c.copy.result) is)
