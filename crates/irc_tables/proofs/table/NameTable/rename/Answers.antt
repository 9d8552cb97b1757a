use Rattle.std.proofs.Common.{◌∙◌, ap}
use Rattle.irc_names.specs.Fold.{key}
use Rattle.irc_names.specs.Tables.{moved}
use Rattle.irc_tables.specs.Lemmas.RowsAsTable.{moved_there, moved_not}
use Rattle.irc_tables.proofs.table.NameTable.rename.Goals as goal

pub returns-in-Some : goal.returns-in-Some
returns-in-Some g c =
    moved_there _ _ _ (key c.args.name.now) (key c.args.new.now) c.in-Some.row.value
    c.in-Some.ensures.value c.take_out.ensures.after c.put_in.ensures.after
    ∙ ap (moved (key c.args.name.now) (key c.args.new.now) (λ v. v)) c.self.view_is

pub returns-in-None : goal.returns-in-None
returns-in-None g c =
    moved_not _ _ (key c.args.name.now)
    (key c.args.new.now) c.in-None.ensures.value c.take_out.ensures.after
    ∙ ap (moved (key c.args.name.now) (key c.args.new.now) (λ v. v)) c.self.view_is
