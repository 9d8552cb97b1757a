use Rattle.std.proofs.Common.{List, [], ◌∷◌, map, take, subst, sym}
use Rattle.std.specs.List.{filter_map}
use Rattle.irc_names.specs.Fold.{key}
use Rattle.irc_tables.specs.RowViews.{row_entry}
use Rattle.irc_numerics.specs.Limits.{max_names}
use Rattle.irc_numerics.specs.declared.replies.Listed.{Listed}
use Rattle.irc_acts.specs.Names.{listed, name_line}
use Rattle.irc_acts.specs.Loops.FilledLines.{Came}
use Rattle.irc_acts.specs.Loops.NameLines.{is_shown}
use Rattle.irc_acts.specs.Lemmas.CameLines.{more_came, rows_more}
use Rattle.irc_acts.proofs.name_lines.add_members.Goals as goal

pub loop-row-preserved : goal.loop-row-preserved
loop-row-preserved c =
    let line = name_line c.args.naming.now.channel.now in
    let named = listed c.args.naming.now.room.now.room.users (is_shown c.args.naming.now.all) in
    let rows = c.args.rows.now in
    let i = c.loop-row.row-index in
    let came = subst (λ n. Came max_names line c.loop-row.steps.items c.loop-row.held.items
    (filter_map named ((key n, c.row-item.result.value) ∷ []))
    c.add_member.new.steps.items c.add_member.new.held.items) c.as_slice-name.ensures.value
    c.in_ok-add_member.ensures in
    subst (λ (names : List Listed). Came max_names line c.args.steps.now.items c.args.held.now.items
    names c.add_member.new.steps.items c.add_member.new.held.items)
    (sym (rows_more named row_entry rows i c.row-item.result c.loop-row-test.true c.row-item.is))
    (more_came max_names line c.args.steps.now.items c.loop-row.steps.items
    c.add_member.new.steps.items c.args.held.now.items c.loop-row.held.items
    c.add_member.new.held.items
    (filter_map named (map row_entry (take i rows)))
    (filter_map named (row_entry c.row-item.result ∷ [])) c.loop-row.invariant came)
