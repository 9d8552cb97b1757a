use Rattle.std.proofs.Common.{sym, ◌∙◌}
use Rattle.irc_names.specs.Fold.{key}
use Rattle.irc_room.proofs.IndexChanges.{closed_alike, closed_used}
use Rattle.irc_room.proofs.name_index.close.Goals as goal

pub returns-then-has_none-clause-alike : goal.returns-then-has_none-clause-alike
returns-then-has_none-clause-alike c =
    closed_alike c.args.rows.now c.remove.new.self (key c.args.nick.now)
    (sym c.has_none.ensures ∙ c.if-has_none.true) c.remove.ensures.after

pub returns-then-has_none-clause-used : goal.returns-then-has_none-clause-used
returns-then-has_none-clause-used c =
    closed_used c.args.rows.now c.remove.new.self (key c.args.nick.now) c.remove.ensures.after
