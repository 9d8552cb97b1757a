use Rattle.irc_acts.specs.MoveLaws.{leaves_are_moves}
use Rattle.irc_channel_commands.proofs.part.part_one.Goals as goal

pub flags-requires : goal.flags-requires
flags-requires c = leaves_are_moves c.args.context.now.room.now.room c.args.steps.now c.requires
