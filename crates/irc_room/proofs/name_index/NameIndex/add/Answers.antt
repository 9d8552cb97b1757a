use Rattle.std.proofs.Common.{◌∙◌, ap, option_map, subst, Some}
use Rattle.irc_names.specs.Fold.{key}
use Rattle.irc_names.specs.Tables.{alter}
use Rattle.irc_tables.specs.Lemmas.RowsAsTable.{ok_also}
use Rattle.irc_room.specs.Indexes.{IsOpened, Names}
use Rattle.irc_room.proofs.IndexChanges.{added}
use Rattle.irc_room.proofs.name_index.NameIndex.add.Goals as goal

pub returns-clause-ok : goal.returns-clause-ok
returns-clause-ok c =
    ok_also c.try_at.result
    (λ is. added c.args.self.now.rows c.open.new.rows _ (key c.args.nick.now) (key c.args.name.now)
    (subst (λ n. IsOpened c.args.self.now.rows c.open.new.rows (key n)) c.as_bytes.ensures.value
    c.in_ok-open.ensures.ok)
    (is ∙ ap (λ n. alter (key n) (option_map (λ (ns : Names). alter (key c.args.name.now)
    (λ _. Some tt) ns)) c.open.new.rows) c.as_bytes-2.ensures.value))
    c.try_at.ensures.ok
