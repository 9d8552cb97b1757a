use Rattle.std.proofs.Common.{[], ◌∷◌, ◌∙◌, sym, ap}
use Rattle.irc_acts.specs.Ahead.{ahead}
use Rattle.irc_channel_commands.specs.Kick.{kicking, kick_one}
use Rattle.irc_channel_commands.proofs.KickOne.{kicks_more, kicked_so_far}
use Rattle.irc_channel_commands.proofs.kick.kick_list.Goals as goal

pub loop-channel-preserved : goal.loop-channel-preserved
loop-channel-preserved c =
    let me = c.args.context.now.me.now in
    let text = c.args.text.now in
    let room = c.args.context.now.room.now.room in
    let before = c.loop-channel.steps.items in
    let asked = kicking c.in-Some.channel.now c.in-Some.nick.now in
    let act = c.kick_one-act.result in
    let served = ap (λ s. kick_one me text (ahead room s) asked) (sym c.as_slice.ensures.value)
    ∙ c.kick_one-act.ensures in
    record {
      leaves = kicks_more me text room before (act ∷ []) asked c.put.new.steps.items
          c.know_well_formed.ensures c.loop-channel.invariant.leaves served c.in_ok-put.ensures;
      served = kicked_so_far me text room before (act ∷ []) c.put.new.steps.items _ asked _ _
          c.in-Some.ensures.0 served c.in_ok-put.ensures c.loop-channel.invariant.served;
    }
