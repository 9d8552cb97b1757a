use Rattle.std.proofs.Common.{rules, nat_eq, sym, ◌∙◌, ap, length}
use Rattle.std.proofs.lemmas.Bool.{eqb-false, ne_eqb}
use Rattle.irc_brakes.specs.Reading.{is_read_beside}
use Rattle.irc_turns.specs.Queues.{Queued}
use Rattle.irc_turns.proofs.QueueMarks.{many_beside}
use Rattle.irc_turns.proofs.queue.Queue.is_beside.Goals as goal

pub returns-else-len-eq1 : goal.returns-else-len-eq1
returns-else-len-eq1 c =
    let order = c.self.inside.order in
    let numbers = ap (λ (queue : Queued). queue.numbers) c.self.view_is in
    ne_eqb c.len.result 1 c.if-len-eq1.false
    ∙ sym (ap (λ q. is_read_beside nat_eq q c.args.number) (sym numbers)
    ∙ many_beside c.args.number order.items c.self.inside.marks.items c.self.invariant.once
    (eqb-false (length order.items) 0
    (ap (λ n. nat_eq n 0) (search rules) ∙ sym c.is_empty.ensures ∙ c.if-is_empty.false))
    (λ e. c.if-len-eq1.false (c.len.ensures ∙ ap length (sym numbers) ∙ e)))
