use Rattle.std.proofs.Common.{ap, ◌∙◌}
use Rattle.irc_line.specs.MessageViews.{parsed}
use Rattle.irc_room.specs.Room.{Room}
use Rattle.irc_routes.specs.Known.{Known, place_of}
use Rattle.irc_commands.specs.Register.{register}
use Rattle.irc_stage.specs.View.{View, machine_of}
use Rattle.irc_stage.specs.Lemmas.MatchedEvents.{registering_fit, registering_free}
use Rattle.irc_stage.specs.Lemmas.SpokenSteps.{registering_spoken}
use Rattle.irc_stage.specs.Lemmas.Twins.{fit_along, spoken_along}
use Rattle.irc_server.specs.Loops.Acting.{given_view}
use Rattle.irc_server.proofs.acting.on_message.Goals as goal

pub on_registration-requires-clause-free : goal.on_registration-requires-clause-free
on_registration-requires-clause-free c =
    let machine = machine_of c.args.stage in
    let message = parsed c.args.message.now in
    let pending = c.pending-pending.result.now in
    registering_free c.registering_is_possible.ensures c.registered_is_added.ensures
    c.unregistered_changes_nothing.ensures c.registered_stays.ensures
    machine c.args.conn pending message _
    (c.in_ok-given-in-Some-Registering.ensures
    ∙ ap (λ (r : Room). register r (place_of c.routes.result.now) pending message)
    (c.room.ensures ∙ ap (λ (view : View). view.room) c.view-view.ensures)
    ∙ ap (λ (k : Known). register machine.room (place_of k) pending message)
    (c.routes.ensures ∙ ap (λ (view : View). view.routes) c.view-view.ensures))
    c.know_serving.ensures.matched c.know_serving.ensures.well_formed

pub on_registration-requires-clause-fit : goal.on_registration-requires-clause-fit
on_registration-requires-clause-fit c =
    let machine = machine_of c.args.stage in
    let message = parsed c.args.message.now in
    let pending = c.pending-pending.result.now in
    let given = c.in_ok-given-in-Some-Registering.given in
    fit_along c.alike_stay_alike.ensures c.alike_take_alike.ensures
    (given_view c.args.stage c.args.conn given) given.steps.items
    (registering_fit c.registering_is_possible.ensures c.registered_is_added.ensures
    c.unregistered_changes_nothing.ensures c.registered_stays.ensures
    machine c.args.conn pending message _
    (c.in_ok-given-in-Some-Registering.ensures
    ∙ ap (λ (r : Room). register r (place_of c.routes.result.now) pending message)
    (c.room.ensures ∙ ap (λ (view : View). view.room) c.view-view.ensures)
    ∙ ap (λ (k : Known). register machine.room (place_of k) pending message)
    (c.routes.ensures ∙ ap (λ (view : View). view.routes) c.view-view.ensures))
    c.know_serving.ensures.matched c.know_serving.ensures.well_formed)

pub on_registration-requires-clause-spoken : goal.on_registration-requires-clause-spoken
on_registration-requires-clause-spoken c =
    let machine = machine_of c.args.stage in
    let message = parsed c.args.message.now in
    let pending = c.pending-pending.result.now in
    let given = c.in_ok-given-in-Some-Registering.given in
    spoken_along c.alike_stay_alike.ensures c.args.conn
    (given_view c.args.stage c.args.conn given) given.steps.items
    (registering_spoken c.registered_is_added.ensures c.unregistered_changes_nothing.ensures
    machine.room machine.place pending message _
    (c.in_ok-given-in-Some-Registering.ensures
    ∙ ap (λ (r : Room). register r (place_of c.routes.result.now) pending message)
    (c.room.ensures ∙ ap (λ (view : View). view.room) c.view-view.ensures)
    ∙ ap (λ (k : Known). register machine.room (place_of k) pending message)
    (c.routes.ensures ∙ ap (λ (view : View). view.routes) c.view-view.ensures))
    c.args.conn _)
