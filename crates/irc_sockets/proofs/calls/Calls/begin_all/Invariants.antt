use Rattle.std.proofs.Common.{◌≡◌}
use Rattle.irc_sockets.proofs.calls.Calls.begin_all.Given as goal

-- whom it was asked to call stays, and so does the spread of the first call that is made again
abbrev pub invariant-loop-place : goal.invariant-loop-place
invariant-loop-place l = record {
  asked : l.self.asked ≡ l.fn.self.asked;
  spread : l.self.retries.spread ≡ l.fn.self.retries.spread;
}
