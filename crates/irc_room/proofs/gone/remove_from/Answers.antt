use Rattle.std.specs.Option.{option_and_then}
use Rattle.irc_names.specs.Fold.{key}
use Rattle.irc_names.specs.Tables.{row}
use Rattle.irc_channels.specs.Channels.{without_user}
use Rattle.irc_room.specs.Indexes.{holds, is_ended_with, invited_beside}
use Rattle.irc_room.proofs.Invitations.{gone_asked}
use Rattle.irc_room.proofs.Memberships.{tells_at, tells_dropped}
use Rattle.irc_room.proofs.gone.remove_from.Goals as goal

pub returns-clause-others : goal.returns-clause-others
returns-clause-others c =
    let nick = key c.args.nick.now in
    let name = key c.args.name.now in
    tells_at (invited_beside nick) _ _ _ c.remove_from.ensures
    (tells_dropped (invited_beside nick) c.args.invited.now.rows name
    (option_and_then (without_user nick)) c.args.channels.now c.requires _
    (λ n. holds (is_ended_with nick) c.args.channels.now n name) c.forget_if_alone.ensures
    (λ n. gone_asked nick (row c.args.channels.now name) n))
