use Rattle.std.proofs.Common.{rules}
use Rattle.irc_acts.specs.MoveLaws.{leaves_are_moves}
use Rattle.irc_channel_commands.proofs.kick.kick_one.Goals as goal

pub flags-flags-requires : goal.flags-flags-requires
flags-flags-requires c =
    leaves_are_moves c.args.context.now.room.now.room c.args.steps.now c.requires

pub returns-in-None : goal.returns-in-None
returns-in-None c = search rules
