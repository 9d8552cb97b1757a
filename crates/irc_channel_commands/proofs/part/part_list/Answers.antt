use Rattle.std.proofs.Common.{[], ◌∷◌, ◌∙◌, sym, ap}
use Rattle.irc_acts.specs.Ahead.{ahead}
use Rattle.irc_acts.specs.AheadLaws.{entry_served}
use Rattle.irc_channel_commands.specs.Part.{part_one}
use Rattle.irc_channel_commands.proofs.PartOne.{leaves_more}
use Rattle.irc_channel_commands.proofs.part.part_list.Goals as goal

pub loop-name-preserved : goal.loop-name-preserved
loop-name-preserved c =
    let room = c.args.context.now.room.now.room in
    let serve = part_one c.args.context.now.me.now c.args.text.now in
    let before = c.loop-name.steps.items in
    let act = c.part_one-act.result in
    let served = ap (λ s. serve (ahead room s) c.in-Some.name.now) (sym c.as_slice.ensures.value)
    ∙ c.part_one-act.ensures in
    record {
      leaves = leaves_more c.args.context.now.me.now c.args.text.now room before
          (act ∷ []) c.in-Some.name.now c.put.new.steps.items c.know_well_formed.ensures
          c.loop-name.invariant.leaves served c.in_ok-put.ensures;
      served = entry_served serve room c.loop-name.rest.now c.in-Some.behind.now c.in-Some.name.now
          before (act ∷ []) c.put.new.steps.items _ c.in-Some.ensures.0 served
          c.loop-name.invariant.served c.in_ok-put.ensures;
    }
