use Rattle.std.proofs.Common.{map}
use Rattle.irc_tables.specs.RowViews.{row_entry}
use Rattle.irc_tables.specs.Lemmas.RowsAsTable.{ok_also}
use Rattle.irc_acts.proofs.JoinersPlace.{joiner_came}
use Rattle.irc_acts.proofs.names.put_joiner_names.Goals as goal

pub returns : goal.returns
returns c =
    ok_also c.finish.result (λ sent.
    joiner_came c.args.context.now.room.now.room.users c.args.context.now.me.now
    c.args.op c.args.channel.now (map row_entry c.parted_at.result.0.now)
    (map row_entry c.parted_at.result.1.now)
    c.requires c.parted_at.ensures c.as_bytes-name.result.now c.args.steps.now.items
    c.add_members.new.steps.items c.add_member.new.steps.items
    c.add_members-2.new.steps.items c.finish.new.steps.items c.new-held.result.items
    c.add_members.new.held.items c.add_member.new.held.items c.add_members-2.new.held.items
    c.as_bytes-name.ensures.value c.new-held.ensures c.in_ok-add_members.ensures
    c.in_ok-add_member.ensures c.in_ok-add_members-2.ensures sent)
    c.finish.ensures
