use Rattle.std.proofs.Common.{◌≡◌, ◌-◌, ◌<◌, ℕ, false, length, get_or}
use Rattle.irc_turns.specs.declared.holding.Held.{Held}
use Rattle.irc_turns.specs.Numbered.{is_due, LetsGo}
use Rattle.irc_turns.proofs.talkers.Talkers.let_go.Given as goal

-- those that were looked at and are held still were not due, nor was before whoever is not now
abbrev pub invariant-loop-place : goal.invariant-loop-place
invariant-loop-place l = record {
  one_by_one : LetsGo l.now l.fn.self l.self;
  all : (k : ℕ) → k < l.place → (d : Held)
      → is_due l.now l.fn.self (get_or l.self.holding k d) ≡ false;
  waits : (held : Held) → is_due l.now l.self held ≡ false → is_due l.now l.fn.self held ≡ false;
}

-- each one that was looked at is held back still, or let go
abbrev pub decreases-loop-place : goal.decreases-loop-place
decreases-loop-place l = length l.self.holding - l.place
