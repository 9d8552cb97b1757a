use Rattle.std.proofs.Common.{◌≡◌, ◌++◌}
use Rattle.irc_line.specs.MessageViews.{optional_now}
use Rattle.irc_acts.specs.Ahead.{ahead, in_turn}
use Rattle.irc_acts.specs.CommaLists.{length_left}
use Rattle.irc_channel_commands.specs.Join.{asked_for, join_one}
use Rattle.irc_acts.specs.Moves.{AreOwnJoins}
use Rattle.irc_channel_commands.proofs.JoinAsked.{asked_left}
use Rattle.irc_channel_commands.proofs.join.join_list.Given as goal

-- what was decided so far, and what is decided of the channels that are left, is what is decided of
-- all
abbrev pub invariant-loop-names : goal.invariant-loop-names
invariant-loop-names l = record {
  joins : AreOwnJoins l.context.me.now.nick l.context.room.now.room l.steps.items;
  served : l.steps.items ++ in_turn (join_one l.context.me.now) (ahead l.context.room.now.room
      l.steps.items) (asked_left (optional_now l.names) (optional_now l.keys))
      ≡ in_turn (join_one l.context.me.now) l.context.room.now.room (asked_for l.list l.fn.keys);
}

abbrev pub decreases-loop-names : goal.decreases-loop-names
decreases-loop-names l = length_left (optional_now l.names)
