use Rattle.ircd.specs.Serving.{unasked}
use Rattle.ircd.proofs.rereading.look_in_time.Goals as goal

pub returns-then-is_time : goal.returns-then-is_time
returns-then-is_time g c = c.look.ensures

pub returns-else-is_time : goal.returns-else-is_time
returns-else-is_time g c = unasked
