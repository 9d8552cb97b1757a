use Rattle.std.proofs.Common.{[], ◌∙◌, ap, unwrap_or}
use Rattle.irc_line.specs.Messages.{text}
use Rattle.irc_link_words.specs.GreetingLines.{greeting, pass_parts}
use Rattle.irc_room.specs.Lemmas.Rows.{found_also}
use Rattle.irc_stage.specs.View.{View, password_for}
use Rattle.irc_server.proofs.LinesServed.{begun}
use Rattle.irc_server.proofs.serving.begin.Goals as goal

pub returns : goal.returns
returns c = found_also c.tell_on-2.result
    (λ done put. begun c.args.link c.args.name.now c.pass_text-pass.result.items
    c.greeting_text-greeting.result.items c.args.serving c.in_ok-tell_on.field-0 done
    (c.pass_text-pass.ensures ∙ ap (λ word. text (pass_parts word)) c.password_to.ensures
    ∙ ap (λ (v : View). text (pass_parts (unwrap_or (password_for v c.args.name.now) [])))
    c.view-view.ensures)
    (c.greeting_text-greeting.ensures ∙ ap (λ known. text (greeting known)) c.routes.ensures
    ∙ ap (λ (v : View). text (greeting v.routes)) c.view-view.ensures)
    c.in_ok-tell_on.ensures put)
    c.tell_on-2.ensures
