use Rattle.std.proofs.Common.{◌≡◌, not, refl, sym, ◌∙◌, ap, subst}
use Rattle.std.specs.Result.{IfOk}
use Rattle.irc_routes.specs.Known.{place_of}
use Rattle.irc_commands.specs.Register.{nick_row, nick_chosen, Registered}
use Rattle.irc_commands.specs.RegisteringViews.{registered_of}
use Rattle.irc_commands.proofs.FirstParameter.{first_given}
use Rattle.irc_commands.proofs.registering.take_nick.Goals as goal

pub returns-in-Some : goal.returns-in-Some
returns-in-Some c =
    let room = c.args.room.now.room in
    let place = place_of c.args.routes.now in
    let row = first_given (nick_row room place c.args.pending)
    (nick_chosen room place c.args.pending)
    (λ b bytes more. refl) c.args.params.now c.in-Some.given.now c.in-Some.ensures.value
    (ap not (sym c.is_empty.ensures ∙ c.if-not-is_empty.true)) in
    subst (λ (target : Registered). IfOk c.choose_nick.result (λ r. registered_of r ≡ target))
    (sym row) c.choose_nick.ensures
