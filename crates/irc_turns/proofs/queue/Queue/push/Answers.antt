use Rattle.std.proofs.Common.{◌<◌, true, set, subst, sym, ◌∙◌, ap, arith}
use Rattle.std.proofs.lemmas.List.{length-set}
use Rattle.irc_turns.specs.Queues.{Queued, stands_in}
use Rattle.irc_turns.proofs.QueueMarks.{StandsOnce, pushed, has_room}
use Rattle.irc_turns.proofs.queue.Queue.push.Goals as goal

pub push_back_reserved-requires : goal.push_back_reserved-requires
push_back_reserved-requires c =
    let order = c.self.inside.order in
    let marks = c.self.inside.marks in
    let within =
    subst (λ (queue : Queued). c.args.number < queue.room) (sym c.self.view_is) c.requires in
    let none = ap (λ (queue : Queued). stands_in c.args.number queue.numbers) c.self.view_is
    ∙ sym c.contains.ensures ∙ c.if-not-contains.true in
    subst (λ n. n < order.cap) (sym order.ok.0) (has_room c.args.number order.items marks.items
    order.cap c.self.invariant.once within none c.self.invariant.room)

pub invariant_of-self : goal.invariant_of-self
invariant_of-self c =
    let order = c.self.inside.order in
    let marks = c.self.inside.marks in
    let within =
    subst (λ (queue : Queued). c.args.number < queue.room) (sym c.self.view_is) c.requires in
    let none = ap (λ (queue : Queued). stands_in c.args.number queue.numbers) c.self.view_is
    ∙ sym c.contains.ensures ∙ c.if-not-contains.true in
    record {
      once = subst (λ numbers. StandsOnce numbers (set marks.items c.args.number true))
          (sym c.push_back_reserved.ensures.items)
          (pushed c.args.number order.items marks.items c.self.invariant.once within none);
      room = omega (
        arith,
        c.self.invariant.room,
        c.push_back_reserved.ensures.capacity,
        length-set marks.items c.args.number true,
      );
    }
