use Rattle.std.proofs.Common.{◌++◌, ◌∙◌, ap, option_to_list}
use Rattle.irc_channels.specs.declared.flags.Flags.{Flags}
use Rattle.irc_tables.specs.declared.table.Row.{Row}
use Rattle.irc_tables.specs.RowViews.{row_entry}
use Rattle.irc_burst_lines.specs.BurstLines.{is_near}
use Rattle.irc_burst_lines.specs.Loops.Telling.{near_member, told_members}
use Rattle.irc_burst_lines.proofs.Told.{one_more_row}
use Rattle.irc_burst_lines.proofs.bursting.near_members.Goals as goal

pub loop-row-preserved : goal.loop-row-preserved
loop-row-preserved c =
    let near = near_member (is_near c.args.routes.now c.args.link) c.args.room.now.room.users in
    let so_far = told_members c.loop-row.members.items in
    c.in_ok-push_if.ensures
    ∙ ap (λ more. so_far ++ option_to_list more) c.near_member.ensures
    ∙ ap (λ (r : Row Flags). so_far ++ option_to_list (near (row_entry r))) c.row-item.is
    ∙ one_more_row near c.args.rows.now c.loop-row.row-index _ so_far c.loop-row-test.true
    c.loop-row.invariant
