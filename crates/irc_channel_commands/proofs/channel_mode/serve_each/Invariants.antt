use Rattle.std.proofs.Common.{◌++◌, drop}
use Rattle.irc_modes.specs.ModeViews.{all_asked}
use Rattle.irc_channel_commands.specs.ChannelMode.{served}
use Rattle.irc_channel_commands.specs.Loops.KeptChanges.{Follows}
use Rattle.irc_channel_commands.proofs.LettersServed.{IsServed}
use Rattle.irc_channel_commands.proofs.channel_mode.serve_each.Given as goal

-- the replies and the changes so far, and those of the letters that are left, are those of all
-- letters
abbrev pub invariant-loop-item : goal.invariant-loop-item
invariant-loop-item l = record {
  follows : Follows l.channel l.kept.changes.items l.kept.settings;
  so_far : IsServed l.room.room.users l.channel
      (all_asked (drop l.item-index l.items)) l.steps.items l.kept.changes.items
      (l.initial.steps.items
      ++ (served l.room.room.users l.channel l.channel (all_asked l.items)).replies)
      (served l.room.room.users l.channel l.channel (all_asked l.items)).changes;
}
