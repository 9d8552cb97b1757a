use Rattle.std.proofs.Common.{length, ap}
use Rattle.irc_script.specs.Lemmas.Sinking.{written_off}
use Rattle.irc_script.proofs.sink.write_waiting.Goals as goal

pub returns-clause-prints : goal.returns-clause-prints
returns-clause-prints g c =
    written_off c.write_whole-written.result _ _ c.as_slice.result.now _ _ c.as_slice.ensures.value
    c.clear.ensures c.write_whole-written.ensures.whole c.write_whole-written.ensures.front

pub returns-clause-len : goal.returns-clause-len
returns-clause-len g c = ap length c.clear.ensures
