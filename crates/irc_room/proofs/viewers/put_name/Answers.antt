use Rattle.irc_names.specs.Fold.{key}
use Rattle.irc_tables.specs.Lemmas.RowsAsTable.{ok_also}
use Rattle.irc_room.proofs.WhoSees.{put_gains}
use Rattle.irc_room.proofs.viewers.put_name.Goals as goal

pub returns : goal.returns
returns c = ok_also c.insert.result
    (put_gains c.args.names.now _ (key c.args.name.now) _) c.insert.ensures.ok
