use Rattle.std.proofs.Common.{◌∙◌, sym, ap, fold, arith}
use Rattle.std.proofs.lemmas.List.{take_all}
use Rattle.irc_acts.specs.Loops.Moving.{members_by}
use Rattle.irc_acts.proofs.MovesAhead.{members_ahead, members_found}
use Rattle.irc_acts.proofs.ahead.members.Goals as goal

pub returns : goal.returns
returns c =
    c.loop-act.invariant.counted
    ∙ ap (fold (members_by c.args.channel.now) _)
    (take_all c.loop-act.act-index c.args.steps.now (omega (arith, c.loop-act-test.false)))
    ∙ ap (λ members. fold (members_by c.args.channel.now) members c.args.steps.now)
    (members_found c.members_of-members.result.now _ c.members_of-members.ensures)
    ∙ sym (members_ahead c.args.channel.now c.args.room.now.room c.args.steps.now c.requires)
