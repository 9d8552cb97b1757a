use Rattle.std.proofs.Common.{◌-◌, subst, sym, arith}
use Rattle.std.specs.Prelude.{vec_len}
use Rattle.irc_turns.proofs.QueueMarks.{StandsOnce, widened}
use Rattle.irc_turns.proofs.queue.Queue.make_room.Goals as goal

pub invariant_of-self-in-Continue-branch-2 : goal.invariant_of-self-in-Continue-branch-2
invariant_of-self-in-Continue-branch-2 c =
    let order = c.self.inside.order in
    let marks = c.self.inside.marks in
    record {
      once = subst (λ numbers. StandsOnce numbers c.resize.new.self.items)
          (sym c.reserve.ensures.items)
          (subst (λ ms. StandsOnce order.items ms) (sym c.in_ok-resize.ensures.items)
          (widened order.items marks.items c.args.room (c.args.room - vec_len marks) (omega
          (arith, c.if-room-len.true, c.len.ensures, marks.ok.0)) c.self.invariant.once));
      room = omega (
        arith,
        c.resize.new.self.ok.0,
        c.in_ok-resize.ensures.len,
        c.in_ok-reserve.ensures.ok,
        c.reserve.ensures.len,
        c.saturating_sub.ensures,
        c.len-then-room-len.ensures,
      );
    }
