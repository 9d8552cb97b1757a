use Rattle.irc_script.specs.Lemmas.Sinking.{prints_both}
use Rattle.irc_script.proofs.sink.write_whole.Goals as goal

pub loop-preserved : goal.loop-preserved
loop-preserved g c = prints_both c.loop.invariant c.in_ok-rest.ensures.some
