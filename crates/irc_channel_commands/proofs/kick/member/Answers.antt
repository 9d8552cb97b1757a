use Rattle.std.proofs.Common.{◌∙◌, sym, ap, is_some}
use Rattle.irc_names.specs.Fold.{key}
use Rattle.irc_acts.specs.MoveLaws.{leaves_are_moves}
use Rattle.irc_channel_commands.proofs.KickMember.{member_is}
use Rattle.irc_channel_commands.proofs.kick.member.Goals as goal

pub flags-requires : goal.flags-requires
flags-requires c = leaves_are_moves c.args.room.now.room c.args.steps.now c.requires

pub returns-then-is_some : goal.returns-then-is_some
returns-then-is_some c =
    c.user.ensures
    ∙ sym (member_is c.args.room.now.room c.args.steps.now (key c.args.nick.now)
    (key c.args.channel.now)
    (leaves_are_moves c.args.room.now.room c.args.steps.now c.requires)
    (sym (c.is_some.ensures ∙ ap is_some c.flags.ensures) ∙ c.if-is_some.true))
