use Rattle.irc_names.specs.Fold.{key}
use Rattle.irc_room.proofs.IndexChanges.{dropped_alike}
use Rattle.irc_room.proofs.name_index.NameIndex.remove.Goals as goal

pub returns-clause-dropped : goal.returns-clause-dropped
returns-clause-dropped c =
    dropped_alike c.args.self.now.rows _ _ (key c.args.nick.now)
    (key c.args.name.now) c.take_name.ensures c.close.ensures.alike
