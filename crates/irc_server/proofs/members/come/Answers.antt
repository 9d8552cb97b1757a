use Rattle.std.proofs.Common.{false, ◌∙◌, ap}
use Rattle.irc_burst_lines.specs.Loops.Telling.{told_member}
use Rattle.irc_room.specs.effect.Effect.TheVariants.{Join}
use Rattle.irc_stage.specs.EffectTold.{changed_if}
use Rattle.irc_server.proofs.DeedsDone.{put_otherwise}
use Rattle.irc_server.proofs.EffectsDone.{member_came}
use Rattle.irc_server.proofs.members.come.Goals as goal

pub returns : goal.returns
returns c =
    let old = c.args.serving in
    put_otherwise c.give-2.result _ _
    (member_came c.args.channel.now (told_member c.args.member.now) old c.in_ok-serving.serving
    c.in_ok-serving-2.serving
    (c.in_ok-serving.ensures
    ∙ ap (λ nick. changed_if (Join nick c.copy-2.result false) old) c.copy.ensures
    ∙ ap (λ channel. changed_if (Join c.args.member.now.nick channel false) old) c.copy-2.ensures)
    c.in_ok-serving-2.ensures)
    c.give-2.ensures
