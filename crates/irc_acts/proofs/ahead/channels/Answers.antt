use Rattle.std.proofs.Common.{◌∙◌, sym, ap, fold, arith}
use Rattle.std.proofs.lemmas.List.{take_all}
use Rattle.irc_acts.specs.Loops.Moving.{channels_by}
use Rattle.irc_acts.proofs.MovesAhead.{channels_ahead}
use Rattle.irc_acts.proofs.ahead.channels.Goals as goal

pub returns : goal.returns
returns c =
    c.loop-act.invariant.counted
    ∙ ap (fold (channels_by c.args.me.now.nick) c.args.before)
    (take_all c.loop-act.act-index c.args.steps.now (omega (arith, c.loop-act-test.false)))
    ∙ ap (λ channels. fold (channels_by c.args.me.now.nick) channels c.args.steps.now)
    c.requires.counted
    ∙ sym (channels_ahead c.args.me.now c.args.room.now.room c.args.steps.now c.requires.moves)
