use Rattle.std.proofs.Common.{◌∙◌, ap, is_some, sym, Some}
use Rattle.irc_names.specs.Lemmas.PlainFacts.{none_if_not_some}
use Rattle.irc_names.specs.Fold.{key}
use Rattle.irc_names.specs.Tables.{row, alter}
use Rattle.irc_tables.specs.Lemmas.RowsAsTable.{ok_also}
use Rattle.irc_room.proofs.IndexChanges.{way_made, way_alike}
use Rattle.irc_room.proofs.name_index.NameIndex.make_way.Goals as goal

pub returns-clause-way : goal.returns-clause-way
returns-clause-way c =
    ok_also c.insert.result
    (λ is. way_made c.args.self.now.rows c.insert.new.self (key c.args.nick.now)
    (key c.args.new.now)
    (is ∙ ap (λ n. alter (key n) (λ _. Some c.new.result) c.args.self.now.rows)
    c.as_bytes-3.ensures.value
    ∙ ap (λ names. alter (key c.args.new.now) (λ _. Some names) c.args.self.now.rows)
    c.new.ensures))
    c.insert.ensures.ok

pub returns-clause-alike : goal.returns-clause-alike
returns-clause-alike c =
    way_alike c.args.self.now.rows c.insert.new.self (key c.args.new.now) c.insert.result
    (none_if_not_some (row c.args.self.now.rows (key c.args.new.now))
    (ap (λ n. is_some (row c.args.self.now.rows (key n))) (sym c.as_bytes-2.ensures.value)
    ∙ sym c.has_row-2.ensures ∙ c.if-has_row.false))
    (ok_also c.insert.result
    (λ is. is ∙ ap (λ n. alter (key n) (λ _. Some c.new.result) c.args.self.now.rows)
    c.as_bytes-3.ensures.value
    ∙ ap (λ names. alter (key c.args.new.now) (λ _. Some names) c.args.self.now.rows) c.new.ensures)
    c.insert.ensures.ok)
    c.insert.ensures.refused
