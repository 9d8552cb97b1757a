use Rattle.std.proofs.Common.{◌∙◌, sym, ap, fold, arith}
use Rattle.std.proofs.lemmas.List.{take_all}
use Rattle.irc_acts.specs.Loops.Moving.{flags_by}
use Rattle.irc_acts.proofs.MovesAhead.{flags_ahead}
use Rattle.irc_acts.proofs.ahead.flags.Goals as goal

pub returns : goal.returns
returns c =
    c.loop-act.invariant
    ∙ ap (fold (flags_by c.args.nick.now c.args.channel.now) c.member-flags.result)
    (take_all c.loop-act.act-index c.args.steps.now (omega (arith, c.loop-act-test.false)))
    ∙ ap (λ flags. fold (flags_by c.args.nick.now c.args.channel.now) flags c.args.steps.now)
    c.member-flags.ensures
    ∙ sym (flags_ahead c.args.nick.now c.args.channel.now c.args.room.now.room c.args.steps.now
    c.requires)
