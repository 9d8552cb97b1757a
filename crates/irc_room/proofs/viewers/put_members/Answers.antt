use Rattle.irc_names.specs.Fold.{key}
use Rattle.irc_names.specs.Tables.{row}
use Rattle.irc_tables.specs.Lemmas.RowsAsTable.{ok_also}
use Rattle.irc_room.proofs.WhoSees.{gains_alike, channel_rows}
use Rattle.irc_room.proofs.viewers.put_members.Goals as goal

pub returns : goal.returns
returns c =
    ok_also c.put_rows.result
    (gains_alike c.args.names.now _ _ _ (channel_rows
    (row c.args.channels.now (key c.args.name.now)) c.members.result.now c.members.ensures))
    c.put_rows.ensures
