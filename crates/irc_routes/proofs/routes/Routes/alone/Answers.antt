use Rattle.std.proofs.Common.{◌∙◌, ap, sym, subst}
use Rattle.irc_names.specs.Names.{IsServer}
use Rattle.irc_routes.specs.Known.{alone_known}
use Rattle.irc_routes.specs.Lemmas.KeptRows.{alone_is}
use Rattle.irc_routes.proofs.TiedTables.{alone_tied}
use Rattle.irc_routes.proofs.routes.Routes.alone.Goals as goal

pub invariant_of-result : goal.invariant_of-result
invariant_of-result c =
    let named = c.in-Some.ensures.1 ∙ c.deref.ensures.value in
    alone_tied _ _ _ _ c.new.ensures.items c.new-2.ensures
    (subst IsServer (sym named) c.requires.name) c.requires.about

pub returns : goal.returns
returns c =
    let named = c.in-Some.ensures.1 ∙ c.deref.ensures.value in
    alone_is _ _ _ c.new.ensures.items ∙ ap (λ name. alone_known name c.args.about) named
