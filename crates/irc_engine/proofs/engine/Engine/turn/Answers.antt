use Rattle.std.proofs.Common.{◌≡◌, false, ap, refl, subst}
use Rattle.irc_outbox.specs.Calls.{asks, Adds}
use Rattle.irc_engine.specs.Knowing.{IsSettled}
use Rattle.irc_engine.specs.Moments.{lost_at, connection_of}
use Rattle.irc_engine.specs.EngineView.{with_wire}
use Rattle.irc_engine.specs.Turning.{device_failed, has_failed}
use Rattle.irc_engine.proofs.KnowingLaws.{settled_once}
use Rattle.irc_engine.proofs.TurnLaws.{kept_then, told_ready, turned_from}
use Rattle.irc_engine.proofs.engine.Engine.turn.Goals as goal

pub returns-then-self-clause-turned : goal.returns-then-self-clause-turned
returns-then-self-clause-turned g c = has_failed c.if-self.true refl

pub returns-in-Ok-clause-turned : goal.returns-in-Ok-clause-turned
returns-in-Ok-clause-turned g c =
    turned_from _ _ _ _ _ _ c.if-self.false
    (kept_then g.W.Wire.is_after _ _ _ _ (λ calls was. c.tell_user.ensures calls
    (c.tell_known.ensures calls was))
    (subst (λ r. Adds g.W.Wire.is_after c.tell_user.new.wire (asks r) c.ready.new.self) c.in-Ok.is
    c.ready.ensures)) c.take.ensures

pub returns-in-Err-clause-turned : goal.returns-in-Err-clause-turned
returns-in-Err-clause-turned g c =
    device_failed c.in-Err.field-0 c.if-self.false c.if-self.false refl
    (kept_then g.W.Wire.is_after _ _ _ _ (λ calls was. c.tell_user.ensures calls
    (c.tell_known.ensures calls was))
    (subst (λ r. Adds g.W.Wire.is_after c.tell_user.new.wire (asks r) c.ready.new.self) c.in-Err.is
    c.ready.ensures)) refl

pub returns-in-Ok-clause-device : goal.returns-in-Ok-clause-device
returns-in-Ok-clause-device g c =
    told_ready g.W.Wire.is_after _ _ _ _ _ c.take.result c.take.ensures

pub returns-in-Err-clause-device : goal.returns-in-Err-clause-device
returns-in-Err-clause-device g c =
    ap (λ (settled : c.args.self.now.failed ≡ false
    → IsSettled (g.M.Machine.server_of c.args.self.now.core.machine) (connection_of
    c.args.self.now.core.connections.table)
    (lost_at c.args.self.now.core.connections.lost)).
    record (with_wire c.ready.new.self c.args.self.now) { settled = settled })
    (settled_once c.args.self.now.failed (g.M.Machine.server_of c.args.self.now.core.machine)
    (connection_of c.args.self.now.core.connections.table)
    (lost_at c.args.self.now.core.connections.lost) _ c.args.self.now.settled)
