use Rattle.std.proofs.Common.{◌≡◌, ◌≤◌, ◌-◌, ◌++◌, length}
use Rattle.irc_commands.specs.declared.TheConstants.{MAX_TARGETS}
use Rattle.irc_acts.specs.CommaLists.{entries}
use Rattle.irc_commands.specs.CodeViews.{programs_here, said_here}
use Rattle.irc_commands.specs.Say.{unless_notice}
use Rattle.irc_commands.proofs.SayTargets.{to_entries}
use Rattle.irc_commands.proofs.say.say_to.Given as goal

-- what was said so far, and what is said to the rest, are what is said to all
abbrev pub invariant-loop-target : goal.invariant-loop-target
invariant-loop-target l = record {
  room : l.served ≤ MAX_TARGETS;
  said : l.steps.items ++ unless_notice l.verb
      (to_entries l.context.room.now.room (programs_here l.context) l.context.me.now
      l.verb l.words (MAX_TARGETS - l.served) (entries l.rest))
      ≡ unless_notice l.verb (said_here l.context l.verb l.targets l.words);
}

abbrev pub decreases-loop-target : goal.decreases-loop-target
decreases-loop-target l = length l.rest
