use Rattle.irc_channel_commands.proofs.LettersServed.{next_asked, served_more}
use Rattle.irc_channel_commands.proofs.channel_mode.serve_each.Goals as goal

pub loop-item-preserved : goal.loop-item-preserved
loop-item-preserved c = record {
  follows = c.in_ok-serve_one.ensures.follows;
  so_far = served_more _ _ _ _ _ _ _ _ _ _ _
      (next_asked c.args.items.now c.loop-item.item-index _ c.loop-item-test.true)
      c.in_ok-serve_one.ensures.replies c.in_ok-serve_one.ensures.changes
      c.loop-item.invariant.so_far;
}
