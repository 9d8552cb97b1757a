use Rattle.std.proofs.Common.{◌∙◌, ap, sym, unwrap_or}
use Rattle.irc_routes.specs.Known.{distance_of, place_of}
use Rattle.irc_routes.specs.Place.{KnownServer, server_named}
use Rattle.irc_queries.proofs.ServersTold.{mapped_or}
use Rattle.irc_queries.proofs.who.hops_to.Goals as goal

pub returns : goal.returns
returns c =
    let known = c.args.routes.now in
    c.unwrap_or.ensures
    ∙ ap (λ d. unwrap_or d 0) (c.distance.ensures
    ∙ ap (λ name. distance_of known name) c.as_bytes.ensures.value
    ∙ (c.place_tells.ensures known c.args.home.now c.created.ensures.numbered).distance)
    ∙ sym (mapped_or (λ (s : KnownServer). s.distance) 0
    (server_named (place_of known) c.args.home.now))
