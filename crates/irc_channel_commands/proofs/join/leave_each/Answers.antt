use Rattle.std.proofs.Common.{◌≡◌, List, ◌∙◌, ap, filter, map, sym, subst}
use Rattle.std.proofs.lemmas.Simd.{map-map}
use Rattle.std.specs.Borrow.{Bor}
use Rattle.std.specs.FinMap.{entries}
use Rattle.std.specs.Result.{IfOk}
use Rattle.irc_names.specs.Fold.{key}
use Rattle.irc_tables.specs.declared.table.Row.{Row}
use Rattle.irc_tables.specs.RowViews.{row_entry}
use Rattle.irc_channels.specs.declared.channel.Channel.{Channel}
use Rattle.irc_channels.specs.Channels.{has_member}
use Rattle.irc_acts.specs.declared.act.Act.{Act}
use Rattle.irc_acts.specs.OwnRows.{own_of_rows}
use Rattle.irc_channel_commands.specs.Join.{leaves}
use Rattle.irc_channel_commands.proofs.join.leave_each.Goals as goal

pub returns : goal.returns
returns c =
    let me = c.args.context.now.me.now in
    let room = c.args.context.now.room.now.room in
    subst (λ (target : List Act). IfOk c.leave_all.result (λ steps. steps.items ≡ target))
    (sym (map-map (leaves me) (λ (row : Bor (Row Channel)). row.now.value) c.as_slice.result.now)
    ∙ ap (map (leaves me)) (own_of_rows room me c.as_slice.result.now
    (ap (map (λ (row : Bor (Row Channel)). row_entry row.now)) c.as_slice.ensures.value
    ∙ (c.in_ok-rows.ensures
    ∙ ap (λ nick. filter (λ e. has_member (key nick) e.1) (entries room.channels))
    c.as_bytes.ensures.value))))
    c.leave_all.ensures
