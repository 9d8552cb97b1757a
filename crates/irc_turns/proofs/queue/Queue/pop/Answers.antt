use Rattle.std.proofs.Common.{◌<◌, false, subst, sym, arith}
use Rattle.std.proofs.lemmas.List.{length-set}
use Rattle.irc_turns.proofs.QueueMarks.{StandsOnce, first_within, popped}
use Rattle.irc_turns.proofs.queue.Queue.pop.Goals as goal

pub index_mut-requires : goal.index_mut-requires
index_mut-requires c =
    let marks = c.self.inside.marks in
    subst (λ n. c.in_ok-number.number < n) (sym marks.ok.0)
    (first_within c.in_ok-number.number c.pop_front.new.self.items marks.items
    (subst (λ numbers. StandsOnce numbers marks.items) c.in_ok-number.ensures.items
    c.self.invariant.once))

pub invariant_of-self : goal.invariant_of-self
invariant_of-self c = record {
  once = subst (λ numbers. StandsOnce numbers c.self.inside.marks.items)
      c.in_err-number.ensures.items c.self.invariant.once;
  room = omega (arith, c.self.invariant.room, c.pop_front.ensures.capacity);
}

pub invariant_of-self-2 : goal.invariant_of-self-2
invariant_of-self-2 c = record {
  once = popped c.in_ok-number.number c.pop_front.new.self.items c.self.inside.marks.items
      (subst (λ numbers. StandsOnce numbers c.self.inside.marks.items) c.in_ok-number.ensures.items
      c.self.invariant.once);
  room = omega (
    arith,
    c.self.invariant.room,
    c.pop_front.ensures.capacity,
    length-set c.self.inside.marks.items c.in_ok-number.number false,
  );
}
