use Rattle.std.proofs.Common.{◌∙◌, ap}
use Rattle.irc_names.specs.Fold.{key}
use Rattle.irc_channels.specs.Channels.{has_member}
use Rattle.irc_channel_commands.proofs.JoinOne.{nobody_in_new}
use Rattle.irc_channel_commands.proofs.join.join_found.Goals as goal

pub enter-requires : goal.enter-requires
enter-requires c =
    let nick = key c.args.context.now.me.now.nick in
    ap (has_member nick) c.new-made.ensures ∙ nobody_in_new nick c.args.asked.now
