use Rattle.std.proofs.Common.{◌∙◌, ap, filter, length}
use Rattle.std.specs.FinMap.{entries}
use Rattle.irc_names.specs.Fold.{key}
use Rattle.irc_channels.specs.Channels.{has_member}
use Rattle.irc_line.specs.MessageViews.{optional_now}
use Rattle.irc_acts.specs.CommaLists.{pieces_left}
use Rattle.irc_channel_commands.proofs.JoinAsked.{all_to_serve, none_so_far, served, some_name}
use Rattle.irc_channel_commands.proofs.JoinOne.{joins_more}
use Rattle.irc_acts.specs.OwnRows.{count_of_entries}
use Rattle.irc_channel_commands.proofs.join.join_list.Goals as goal

pub loop-names-init : goal.loop-names-init
loop-names-init c = record {
  joins = none_so_far c.args.context.now.me.now c.args.context.now.room.now.room
      c.new-steps.result.items c.new-steps.ensures.items;
  served = all_to_serve c.args.context.now.me.now c.args.context.now.room.now.room c.args.list.now
      c.args.keys.now c.new-steps.result.items c.new-steps.ensures.items;
}

pub join_one-requires-clause-counted : goal.join_one-requires-clause-counted
join_one-requires-clause-counted c =
    c.channel_count-already.ensures
    ∙ ap (λ nick. length (filter (λ e. has_member (key nick) e.1)
    (entries c.args.context.now.room.now.room.channels))) c.as_bytes.ensures.value
    ∙ count_of_entries c.args.context.now.room.now.room c.args.context.now.me.now

pub loop-names-preserved-in-Continue-1 : goal.loop-names-preserved-in-Continue-1
loop-names-preserved-in-Continue-1 c = record {
  joins = joins_more c.args.context.now.me.now c.args.context.now.room.now.room
      c.loop-names.steps.items c.join_one.new.steps.items _ c.know_well_formed.ensures
      c.loop-names.invariant.joins c.in_ok-join_one.ensures;
  served = served c.args.context.now.me.now c.args.context.now.room.now.room
      (optional_now c.loop-names.names) (optional_now c.loop-names.keys)
      (optional_now c.first_piece.result.1) (optional_now c.next_key.result.1)
      c.first_piece.result.0.now c.next_key.result.0.now _ c.loop-names.steps.items
      (ap (λ names. pieces_left (optional_now names)) c.in-Some.is ∙ c.first_piece.ensures.parted)
      c.next_key.ensures c.loop-names.invariant.served c.join_one.new.steps.items
      (some_name c.first_piece.result.0.now c.is_empty.result c.is_empty.ensures
      c.if-not-is_empty.true) c.in_ok-join_one.ensures;
}
