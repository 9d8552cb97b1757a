use Rattle.std.proofs.Common.{◌≡◌, ◌++◌, length}
use Rattle.irc_acts.specs.Ahead.{ahead, in_turn}
use Rattle.irc_acts.specs.CommaLists.{entries}
use Rattle.irc_acts.specs.Moves.{AreLeaves}
use Rattle.irc_channel_commands.specs.Part.{part_one}
use Rattle.irc_channel_commands.proofs.part.part_list.Given as goal

-- the steps so far, and those of the rest in the room that they leave, are the steps of the whole
-- list
abbrev pub invariant-loop-name : goal.invariant-loop-name
invariant-loop-name l = record {
  leaves : AreLeaves l.context.room.now.room l.steps.items;
  served : l.steps.items ++ in_turn (part_one l.context.me.now l.text)
      (ahead l.context.room.now.room l.steps.items) (entries l.rest)
      ≡ in_turn (part_one l.context.me.now l.text) l.context.room.now.room (entries l.list);
}

abbrev pub decreases-loop-name : goal.decreases-loop-name
decreases-loop-name l = length l.rest
