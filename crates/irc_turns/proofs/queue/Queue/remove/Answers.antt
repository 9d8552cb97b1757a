use Rattle.std.proofs.Common.{rules, ◌<◌, not, nat_eq, false, set, subst, sym, ◌∙◌, ap, arith}
use Rattle.std.proofs.lemmas.List.{length-set}
use Rattle.std.proofs.lemmas.Fn.{filter_same}
use Rattle.irc_turns.specs.Queues.{Queued, stands_in, queue_without}
use Rattle.irc_turns.proofs.QueueMarks.{StandsOnce, stands_within, removed, without_none}
use Rattle.irc_turns.proofs.queue.Queue.remove.Goals as goal

pub index_mut-requires : goal.index_mut-requires
index_mut-requires c =
    let marks = c.self.inside.marks in
    let stands = ap (λ (queue : Queued). stands_in c.args.number queue.numbers) c.self.view_is
    ∙ sym c.contains.ensures ∙ c.if-contains.true in
    subst (λ n. c.args.number < n) (sym marks.ok.0) (stands_within c.args.number
    c.self.inside.order.items marks.items c.self.invariant.once stands)

pub invariant_of-self : goal.invariant_of-self
invariant_of-self c =
    let order = c.self.inside.order in
    let marks = c.self.inside.marks in
    let stands = ap (λ (queue : Queued). stands_in c.args.number queue.numbers) c.self.view_is
    ∙ sym c.contains.ensures ∙ c.if-contains.true in
    record {
      once = subst (λ numbers. StandsOnce numbers (set marks.items c.args.number false))
          (sym (filter_same _ (λ queued. not (nat_eq queued c.args.number)) _
          (λ x b f' k. search rules) _ _ c.retain.ensures.filtered))
          (removed c.args.number order.items marks.items c.self.invariant.once
          (stands_within c.args.number order.items marks.items c.self.invariant.once stands));
      room = omega (
        arith,
        c.self.invariant.room,
        c.retain.ensures.capacity,
        length-set marks.items c.args.number false,
      );
    }

pub returns-then-contains-clause-numbers : goal.returns-then-contains-clause-numbers
returns-then-contains-clause-numbers c =
    filter_same _ (λ queued. not (nat_eq queued c.args.number)) _
    (λ x b f' k. search rules) _ _ c.retain.ensures.filtered
    ∙ ap (λ (queue : Queued). queue_without c.args.number queue.numbers) c.self.view_is

pub returns-else-contains-clause-numbers : goal.returns-else-contains-clause-numbers
returns-else-contains-clause-numbers c = without_none c.args.number c.args.self.now.numbers
    (sym c.contains.ensures ∙ c.if-contains.false)
