use Rattle.std.proofs.Common.{sym, ◌∙◌, ap}
use Rattle.std.specs.List.{list_any}
use Rattle.irc_names.specs.Lemmas.PlainFacts.{list_any-map}
use Rattle.irc_tables.specs.RowViews.{row_entry}
use Rattle.irc_forest.specs.Loops.AsTheyAre.{survives}
use Rattle.irc_forest.proofs.agreeing.is_left.Goals as goal

pub returns : goal.returns
returns c =
    let other = c.args.other.now.room in
    c.some_survives.ensures
    ∙ sym (list_any-map (survives other) row_entry c.as_slice.result.now)
    ∙ ap (list_any (survives other)) c.as_slice.ensures
