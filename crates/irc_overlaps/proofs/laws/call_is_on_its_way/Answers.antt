use Rattle.irc_overlaps.proofs.ComputedRun.{call_is_on_its_way}
use Rattle.irc_overlaps.proofs.laws.call_is_on_its_way.Goals as goal

pub returns : goal.returns
returns c = call_is_on_its_way
