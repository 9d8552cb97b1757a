use Rattle.std.proofs.Common.{◌∙◌, ap, is_some}
use Rattle.irc_names.specs.Fold.{key}
use Rattle.irc_room.specs.Readers.{flags_at}
use Rattle.irc_acts.specs.Ahead.{ahead}
use Rattle.irc_acts.specs.MoveLaws.{own_joins_are_moves}
use Rattle.irc_channel_commands.proofs.JoinOne.{flags_tell}
use Rattle.irc_channel_commands.proofs.join.is_in.Goals as goal

pub flags-requires : goal.flags-requires
flags-requires c = own_joins_are_moves c.args.context.now.me.now.nick
    c.args.context.now.room.now.room c.args.steps.now c.requires

pub returns : goal.returns
returns c =
    let now = ahead c.args.context.now.room.now.room c.args.steps.now in
    c.is_some.ensures
    ∙ ap is_some c.flags.ensures
    ∙ ap (λ nick. is_some (flags_at now (key nick) (key c.args.name.now))) c.as_bytes.ensures.value
    ∙ flags_tell now c.args.context.now.me.now.nick c.args.name.now
