use Rattle.std.proofs.Common.{◌∙◌, ap, sym}
use Rattle.std.specs.Option.{option_copied}
use Rattle.irc_line.specs.MessageViews.{optional_now, parsed}
use Rattle.irc_crossing.specs.Hearing.{modes_by, modes_from}
use Rattle.irc_crossing.specs.Letters.{LettersLeft}
use Rattle.irc_crossing.specs.Loops.LettersLeft.{left_of, with_log}
use Rattle.irc_crossing.proofs.log.Log.hear_modes.Goals as goal

pub returns-in-Some-doer_now-clause-given : goal.returns-in-Some-doer_now-clause-given
returns-in-Some-doer_now-clause-given c =
    let message = parsed c.args.message.now in
    let channel = c.args.modes.now.channel in
    let left = with_log c.pass_modes.new.self (left_of c.in_ok-left.left) in
    c.given.ensures c.pass_modes.new.self
    ∙ ap (modes_from message c.args.peer.now channel left)
    (ap option_copied (sym c.in-Some-doer_now.is) ∙ c.doer_now.ensures)
    ∙ ap (λ prefix. modes_by message c.args.peer.now channel left (optional_now prefix))
    (sym c.in-Some.is)
    ∙ ap (λ (it : LettersLeft). modes_by message c.args.peer.now channel it
    (optional_now c.args.message.now.prefix)) c.in_ok-left.ensures

pub returns-clause-given : goal.returns-clause-given
returns-clause-given c =
    let message = parsed c.args.message.now in
    let channel = c.args.modes.now.channel in
    let left = with_log c.pass_modes.new.self (left_of c.in_ok-left.left) in
    c.set_by.ensures c.pass_modes.new.self
    ∙ ap (modes_from message c.args.peer.now channel left)
    (ap option_copied (sym c.in-None.is) ∙ c.doer_now.ensures)
    ∙ ap (λ prefix. modes_by message c.args.peer.now channel left (optional_now prefix))
    (sym c.in-Some.is)
    ∙ ap (λ (it : LettersLeft). modes_by message c.args.peer.now channel it
    (optional_now c.args.message.now.prefix)) c.in_ok-left.ensures
