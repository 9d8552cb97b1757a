use Rattle.std.proofs.Common.{◌∙◌, sym}
use Rattle.irc_names.specs.Fold.{key}
use Rattle.irc_room.proofs.Invitations.{dropped_alike, ended_rows}
use Rattle.irc_room.proofs.gone.forget_if_alone.Goals as goal

pub returns-then-is_alone : goal.returns-then-is_alone
returns-then-is_alone c =
    dropped_alike _ _ c.args.invited.now.rows c.forget_each.new.invited.rows (key c.args.name.now)
    (ended_rows c.args.channels.now (key c.args.nick.now)
    (key c.args.name.now) c.in-Some.channel.now _ c.in-Some.ensures
    (sym c.is_alone.ensures ∙ c.if-is_alone.true) c.as_slice.ensures) c.forget_each.ensures
