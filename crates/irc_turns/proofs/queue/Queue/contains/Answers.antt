use Rattle.std.proofs.Common.{sym, ◌∙◌, ap}
use Rattle.irc_turns.specs.Queues.{Queued, stands_in, is_marked}
use Rattle.irc_turns.proofs.QueueMarks.{stands_marked}
use Rattle.irc_turns.proofs.queue.Queue.contains.Goals as goal

pub returns : goal.returns
returns c =
    c.is_marked.ensures ∙ ap (λ marks. is_marked marks c.args.number) c.deref.ensures.value
    ∙ sym (stands_marked c.args.number c.self.inside.order.items c.self.inside.marks.items
    c.self.invariant.once)
    ∙ ap (λ (queue : Queued). stands_in c.args.number queue.numbers) c.self.view_is
