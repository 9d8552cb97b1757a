use Rattle.std.proofs.Common.{◌≡◌, ◌++◌, length}
use Rattle.irc_acts.specs.Ahead.{ahead, in_turn}
use Rattle.irc_acts.specs.CommaLists.{entries}
use Rattle.irc_acts.specs.Moves.{AreLeaves}
use Rattle.irc_channel_commands.specs.Kick.{kick_one}
use Rattle.irc_channel_commands.specs.Loops.KickList.{kicks_left}
use Rattle.irc_channel_commands.proofs.kick.kick_list.Given as goal

-- the steps so far, and those of what is left in the room that they leave, are the steps of all
abbrev pub invariant-loop-channel : goal.invariant-loop-channel
invariant-loop-channel l =
    let room = l.context.room.now.room in
    let serve = kick_one l.context.me.now l.text in
    record {
      leaves : AreLeaves room l.steps.items;
      served : l.steps.items ++ in_turn serve (ahead room l.steps.items)
          (kicks_left l.left.is_one (entries l.left.channels.now) (entries l.left.nicks.now))
          ≡ in_turn serve room (kicks_left l.asked.is_one (entries l.asked.channels.now)
          (entries l.asked.nicks.now));
    }

abbrev pub decreases-loop-channel : goal.decreases-loop-channel
decreases-loop-channel l = length l.left.nicks.now
