use Rattle.std.proofs.Common.{◌∙◌, ap, map, subst}
use Rattle.irc_names.specs.Fold.{key}
use Rattle.irc_names.specs.Tables.{row}
use Rattle.irc_channels.specs.ChannelTable.{members_in}
use Rattle.irc_tables.specs.RowViews.{row_entry}
use Rattle.irc_effects.specs.Found.{AreNamed}
use Rattle.irc_effects.specs.Found.{users_under}
use Rattle.irc_effects.specs.Room.{Room}
use Rattle.irc_effects.specs.Lemmas.Rows.{found_also}
use Rattle.irc_room.proofs.WhoSees.{names_chosen, joiner_among}
use Rattle.irc_room.proofs.viewers.with_joiner.Goals as goal

pub returns : goal.returns
returns c =
    let named = subst
    (λ (room : Room). AreNamed room.users) c.tables.view_is c.tables.invariant.users_named in
    let channels = c.args.tables.now.channels in
    found_also c.users_of.result
    (λ found is. is
    ∙ ap (λ (room : Room). users_under room.users (map row_entry c.as_slice.result.now))
    c.tables.view_is
    ∙ names_chosen c.args.tables.now.users named _ c.as_slice.result.now _ c.as_slice.ensures
    (joiner_among _ _ _ c.new-names.ensures c.args.nick.now
    (row channels (key c.args.channel.now)) c.members.result.now
    (c.members.ensures ∙ ap (λ (room : Room).
    members_in (row room.channels (key c.as_bytes.result.now))) c.tables.view_is
    ∙ ap (λ name. members_in (row channels (key name))) c.as_bytes.ensures.value)
    c.as_bytes-2.result.now c.as_bytes-2.ensures.value c.in_ok-put_rows.ensures
    c.in_ok-put_name.ensures))
    c.users_of.ensures
