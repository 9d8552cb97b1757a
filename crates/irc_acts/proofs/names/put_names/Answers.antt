use Rattle.std.proofs.Common.{ℕ, Bool, List, ◌++◌, ◌∙◌, map, ap}
use Rattle.std.specs.List.{filter_map}
use Rattle.irc_names.specs.Fold.{key}
use Rattle.irc_tables.specs.RowViews.{row_entry}
use Rattle.irc_tables.specs.Lemmas.RowsAsTable.{ok_also}
use Rattle.irc_channels.specs.declared.flags.Flags.{Flags}
use Rattle.irc_channels.specs.Channels.{has_member}
use Rattle.irc_numerics.specs.Limits.{max_names}
use Rattle.irc_acts.specs.Names.{listed, name_line, name_lines}
use Rattle.irc_acts.specs.Loops.NameLines.{is_shown}
use Rattle.irc_acts.specs.Lemmas.CameLines.{all_came}
use Rattle.irc_acts.proofs.names.put_names.Goals as goal

pub returns : goal.returns
returns c =
    let users = c.args.context.now.room.now.room.users in
    let channel = c.args.channel.now in
    let before = c.args.steps.now.items in
    let rows = map row_entry c.as_slice-rows.result.now in
    ok_also c.finish.result (λ sent.
    all_came max_names (name_line channel) before c.add_members.new.steps.items
    c.finish.new.steps.items c.new-held.result.items
    (filter_map (listed users (is_shown c.has_member-all.result)) rows)
    c.add_members.new.held.items c.new-held.ensures c.in_ok-add_members.ensures sent
    ∙ ap (λ (all : Bool). before ++ name_lines channel
    (filter_map (listed users (is_shown all)) rows)) c.has_member-all.ensures
    ∙ ap (λ (es : List (List ℕ × Flags)). before ++ name_lines channel (filter_map
    (listed users (is_shown (has_member (key c.args.context.now.me.now.nick) channel))) es))
    c.as_slice-rows.ensures)
    c.finish.ensures
