use Rattle.std.proofs.Common.{◌∙◌, sym}
use Rattle.irc_names.specs.Fold.{key}
use Rattle.irc_names.specs.Tables.{row}
use Rattle.irc_room.proofs.IndexChanges.{dropped, surely_taken, went_well}
use Rattle.irc_room.proofs.name_index.take_name.Goals as goal

pub unreachable-requires : goal.unreachable-requires
unreachable-requires c =
    surely_taken (row c.args.rows.now (key c.args.nick.now)) c.try_at.result c.try_at.ensures.absent
    c.try_at.ensures.sure
    (sym c.is_err.ensures.value ∙ c.if-is_err.true)

pub returns : goal.returns
returns c =
    went_well c.try_at.result (sym c.is_err.ensures.value ∙ c.if-is_err.false)
    (dropped c.args.rows.now _ (key c.args.nick.now) (key c.args.name.now)) c.try_at.ensures.ok
