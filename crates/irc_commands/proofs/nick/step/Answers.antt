use Rattle.std.proofs.Common.{not, refl, sym, ◌∙◌, ap}
use Rattle.irc_commands.specs.Nick.{nick_steps, nick_taken}
use Rattle.irc_commands.proofs.FirstParameter.{first_given}
use Rattle.irc_commands.proofs.nick.step.Goals as goal

pub returns-in-Some : goal.returns-in-Some
unfolding nick_steps
returns-in-Some c =
    first_given (nick_steps c.args.context.now.room.now.room c.args.context.now.me.now)
    (nick_taken c.args.context.now.room.now.room c.args.context.now.me.now)
    (λ b bytes more. refl) c.args.params.now c.in-Some.given.now
    c.in-Some.ensures.value (ap not (sym c.is_empty.ensures ∙ c.if-not-is_empty.true))
    ∙ c.take.ensures
