use Rattle.std.proofs.Common.{arith}
use Rattle.irc_commands.specs.CodeViews.{programs_here}
use Rattle.irc_commands.proofs.SayTargets.{target_more}
use Rattle.irc_commands.proofs.say.say_to.Goals as goal

pub loop-target-preserved : goal.loop-target-preserved
loop-target-preserved c = record {
  room = omega arith;
  said = target_more c.args.context.now.room.now.room (programs_here c.args.context.now)
      c.args.context.now.me.now c.args.verb
      c.args.words.now c.loop-target.rest.now c.in-Some.behind.now c.in-Some.target.now
      c.loop-target.served c.loop-target.steps.items c.put_said.new.steps.items _
      (omega arith) c.in-Some.ensures.0 c.loop-target.invariant.said
      c.in_ok-put_said.ensures;
}
