use Rattle.std.proofs.Common.{sym, ◌∙◌, ap}
use Rattle.std.proofs.lemmas.List.Folds.{list_all-map}
use Rattle.std.specs.List.{list_all}
use Rattle.irc_tables.specs.RowViews.{row_entry}
use Rattle.irc_forest.specs.Loops.AsTheyAre.{agrees_on}
use Rattle.irc_forest.proofs.LeftChannels.{agree_now}
use Rattle.irc_forest.proofs.agreeing.agree.Goals as goal

pub returns : goal.returns
returns c =
    let one = c.args.one.now.room in
    let other = c.args.other.now.room in
    c.agree_on_all.ensures
    ∙ sym (list_all-map (agrees_on one other) row_entry c.channels.result.now)
    ∙ ap (list_all (agrees_on one other)) c.channels.ensures
    ∙ sym (agree_now one other c.know_well_formed.ensures c.know_well_formed-2.ensures)
