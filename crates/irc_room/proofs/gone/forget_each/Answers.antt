use Rattle.std.proofs.Common.{◌∙◌, ap}
use Rattle.irc_names.specs.Fold.{key}
use Rattle.irc_tables.specs.declared.table.Row.{Row}
use Rattle.irc_room.proofs.Invitations.{row_dropped}
use Rattle.irc_room.proofs.gone.forget_each.Goals as goal

pub loop-nick-preserved : goal.loop-nick-preserved
loop-nick-preserved c =
    row_dropped c.args.nicks.now c.loop-nick.nick-index _ c.loop-nick-test.true
    c.args.invited.now.rows c.loop-nick.invited.rows c.remove.new.self.rows
    (key c.args.name.now) c.as_slice.result.now (c.as_slice.ensures.value
    ∙ ap (λ (r : Row (Unit {0})). r.name.items) c.nick-item.is) c.loop-nick.invariant
    c.remove.ensures.dropped
