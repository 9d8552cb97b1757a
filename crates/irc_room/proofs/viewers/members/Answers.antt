use Rattle.std.proofs.Common.{◌∙◌, ap, map}
use Rattle.irc_names.specs.Fold.{key}
use Rattle.irc_names.specs.Tables.{row}
use Rattle.irc_tables.specs.RowViews.{row_entry}
use Rattle.irc_channels.specs.ChannelTable.{members_in}
use Rattle.irc_effects.specs.Effects.{is_member}
use Rattle.irc_effects.specs.Found.{users_who}
use Rattle.irc_effects.specs.Room.{Room}
use Rattle.irc_effects.specs.Lemmas.Rows.{found_also}
use Rattle.irc_room.proofs.WhoSees.{members_chosen}
use Rattle.irc_room.proofs.viewers.members.Goals as goal

pub returns : goal.returns
returns c =
    let channels = c.tables.inside.channels in
    found_also c.users_of.result
    (λ found is. is
    ∙ members_chosen c.tables.inside.users.users c.tables.invariant.users_named
    (row channels (key c.args.channel.now)) (map row_entry c.members.result.now)
    (c.members.ensures ∙ ap (λ name. members_in (row channels (key name))) c.as_bytes.ensures.value)
    ∙ ap (λ (room : Room). users_who room.users
    (λ viewer. is_member room viewer c.args.channel.now)) c.tables.view_is)
    c.users_of.ensures
