use Rattle.std.proofs.Common.{ap}
use Rattle.irc_stage.specs.View.{View}
use Rattle.irc_stage.specs.Loops.Parts.{machine_at}
use Rattle.irc_stage.proofs.NewServer.{is_matched}
use Rattle.irc_stage.proofs.stage.FirstStage.new.Goals as goal

pub invariant_of-result : goal.invariant_of-result
invariant_of-result c = record {
  ready = c.new.ensures.ready;
  matched = is_matched (machine_at c.new.result)
      (ap (λ (v : View). v.clients) c.new.ensures.made)
      (ap (λ (v : View). v.room) c.new.ensures.made);
}
