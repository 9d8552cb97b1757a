use Rattle.std.proofs.Common.{◌≡◌, ◌≤◌, ◌∙◌, None, ap, length, subst, sym}
use Rattle.std.specs.List.{AllByRecursion}
use Rattle.irc_net.specs.Loops.Ordering.{IsServerConfig}
use Rattle.irc_net.specs.Making.{configs_fault, everywhere, made_of}
use Rattle.irc_net.specs.OneRoom.{IsKeptSound}
use Rattle.irc_network.specs.Whole.{no_pipes}
use Rattle.irc_net.proofs.Named.{ordered_few, ordered_named}
use Rattle.irc_net.proofs.NewNet.{made_is_new, network_made}
use Rattle.irc_net.proofs.net.Net.serving.Goals as goal

pub forest_of-requires-clause-named : goal.forest_of-requires-clause-named
forest_of-requires-clause-named g c =
    let none : configs_fault c.args.configs.items ≡ None =
    sym (c.configs_fault.ensures ∙ ap configs_fault c.deref.ensures.value) ∙ c.in_default.is in
    subst (AllByRecursion IsServerConfig) (sym c.deref-2.ensures.value)
    (ordered_named c.args.configs.items c.in_order-ordered.result.items none
    c.in_order-ordered.ensures.ones)

pub forest_of-requires-clause-few : goal.forest_of-requires-clause-few
forest_of-requires-clause-few g c =
    let none : configs_fault c.args.configs.items ≡ None =
    sym (c.configs_fault.ensures ∙ ap configs_fault c.deref.ensures.value) ∙ c.in_default.is in
    subst (λ configs. length configs ≤ 256) (sym c.deref-2.ensures.value)
    (ordered_few c.args.configs.items c.in_order-ordered.result.items none
    c.in_order-ordered.ensures.ones)

pub invariant_of-result : goal.invariant_of-result
invariant_of-result g c =
    let none : configs_fault c.args.configs.items ≡ None =
    sym (c.configs_fault.ensures ∙ ap configs_fault c.deref.ensures.value) ∙ c.in_default.is in
    let ordered = c.in_order-ordered.result.items in
    λ _. subst IsKeptSound
    (sym (c.in_ok-new.ensures
    ∙ ap no_pipes (network_made
    (everywhere c.args.programs) ordered c.deref-2.result.now c.in_ok-forest.forest
    c.in_ok-nodes.nodes.items c.deref-2.ensures.value c.in_ok-forest.ensures
    c.in_ok-nodes.ensures)))
    (c.networks_stay_sound.ensures.new (made_of (everywhere c.args.programs) ordered)
    (made_is_new (everywhere c.args.programs) c.args.configs.items ordered none
    c.in_order-ordered.ensures.ones))
