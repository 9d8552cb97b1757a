use Rattle.irc_line.proofs.Streams.{begins_anew_real}
use Rattle.irc_line.proofs.framing.Framer.end_line.Goals as goal
use Rattle.irc_line.proofs.framing.Framer.end_line.Goals.{then-self, else-self}

pub invariant_of-self : goal.invariant_of-self
invariant_of-self c =
    elim c.if-self.branch [
      | then-self w ↦ rw w.self-inside-is (begins_anew_real w.clear.new.self.items w.clear.ensures)
      | else-self w ↦ rw w.self-inside-is c.self.invariant
    ]
