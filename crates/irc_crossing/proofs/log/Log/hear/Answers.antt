use Rattle.std.proofs.Common.{◌≡◌, ◌∙◌, IfOk, ap, subst, sym}
use Rattle.irc_line.specs.MessageViews.{parsed_result}
use Rattle.irc_crossing.specs.Hearing.{read_given}
use Rattle.irc_crossing.specs.declared.hearing.Given.{Given}
use Rattle.irc_crossing.proofs.Nothing.{given_of_none, given_of_some, log_of_none}
use Rattle.irc_crossing.proofs.log.Log.hear.Goals as goal

pub returns-then-is_empty-clause-given : goal.returns-then-is_empty-clause-given
returns-then-is_empty-clause-given c =
    given_of_none c.args.self.now c.args.peer.now c.args.is_held c.args.line.now
    (sym c.is_empty.ensures ∙ c.if-is_empty.true)

pub returns-then-is_empty-clause-behind : goal.returns-then-is_empty-clause-behind
returns-then-is_empty-clause-behind c =
    log_of_none c.args.self.now c.args.line.now (sym c.is_empty.ensures ∙ c.if-is_empty.true)

pub returns-in-Ok-clause-given : goal.returns-in-Ok-clause-given
returns-in-Ok-clause-given c =
    subst (λ (is : Given). IfOk c.hear_message.result (λ became. became ≡ is))
    (ap (read_given c.args.self.now c.args.peer.now c.args.is_held)
    (ap parsed_result (sym c.in-Ok.is) ∙ c.parse.ensures.as_function)
    ∙ given_of_some c.args.self.now c.args.peer.now c.args.is_held c.args.line.now
    (sym c.is_empty.ensures ∙ c.if-is_empty.false))
    c.hear_message.ensures.given
