use Rattle.std.proofs.Common.{refl}
use Rattle.ircd.proofs.Ready.{unopened_by}
use Rattle.ircd.proofs.serve.open.Goals as goal

pub returns-in-Err : goal.returns-in-Err
returns-in-Err g c = (
  c.stop_for.ensures.stop,
  unopened_by c.args.setup c.in-Err.fault _ _ c.in-Err.ensures.faults c.stop_for.ensures.said,
)

pub returns : goal.returns
returns g c = (
  record {
    manner = c.args.manner;
    speaks = c.requires.manner;
    layer = c.new-layer.result;
    door = c.front_of-front.result;
    front = c.front_of-front.ensures.front;
    is_around = c.new-layer.ensures;
    sockets = c.in-Ok.wire;
    listens = c.in-Ok.ensures.listens;
    callees = c.in-Ok.ensures.callees;
    spread = c.in-Ok.ensures.spread;
    is_new = c.in_ok-engine.ensures;
  },
  refl,
)
