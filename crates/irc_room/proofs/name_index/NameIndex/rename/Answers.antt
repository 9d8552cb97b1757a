use Rattle.std.proofs.Common.{◌∙◌, ap, is_some, sym, Some, None}
use Rattle.irc_names.specs.Fold.{key}
use Rattle.irc_names.specs.FoldLaws.{same-tells}
use Rattle.irc_names.specs.Tables.{row, alter}
use Rattle.irc_tables.specs.Lemmas.RowsAsTable.{moved_there, moved_not}
use Rattle.irc_room.proofs.IndexChanges.{moved_nowhere, stays_by_name}
use Rattle.irc_room.proofs.name_index.NameIndex.rename.Goals as goal

pub returns-then-eq : goal.returns-then-eq
returns-then-eq c =
    moved_nowhere c.args.self.now.rows (key c.args.nick.now) (key c.args.new.now)
    (sym ((same-tells c.args.nick.now c.args.new.now).0 (sym c.eq.ensures ∙ c.if-eq.true)))

pub returns-in_default : goal.returns-in_default
returns-in_default c =
    moved_not c.args.self.now.rows c.remove.new.self (key c.args.nick.now) (key c.args.new.now)
    (c.in_default.ensures.value
    ∙ ap (λ n. row c.args.self.now.rows (key n)) c.as_bytes.ensures.value)
    (c.remove.ensures.after
    ∙ ap (λ n. alter (key n) (λ _. None) c.args.self.now.rows) c.as_bytes.ensures.value)

pub put_in-requires-clause-there : goal.put_in-requires-clause-there
put_in-requires-clause-there c =
    ap (λ n. is_some (row c.remove.new.self (key n))) c.as_bytes-2.ensures.value
    ∙ ap (λ index. is_some (row index (key c.args.new.now)))
    (c.remove.ensures.after
    ∙ ap (λ n. alter (key n) (λ _. None) c.args.self.now.rows) c.as_bytes.ensures.value)
    ∙ stays_by_name c.args.self.now.rows c.args.nick.now c.args.new.now
    (sym c.eq.ensures ∙ c.if-eq.false)
    (c.requires.there (ap is_some (sym (c.in-Some.ensures.value
    ∙ ap (λ n. row c.args.self.now.rows (key n)) c.as_bytes.ensures.value))))

pub returns : goal.returns
returns c =
    moved_there c.args.self.now.rows c.remove.new.self c.put_in.new.rows (key c.args.nick.now)
    (key c.args.new.now) c.in-Some.names
    (c.in-Some.ensures.value ∙ ap (λ n. row c.args.self.now.rows (key n)) c.as_bytes.ensures.value)
    (c.remove.ensures.after
    ∙ ap (λ n. alter (key n) (λ _. None) c.args.self.now.rows) c.as_bytes.ensures.value)
    (c.put_in.ensures ∙ ap (λ n. alter (key n) (λ _. Some c.in-Some.names) c.remove.new.self)
    c.as_bytes-2.ensures.value)
