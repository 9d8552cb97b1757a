use Rattle.std.proofs.Common.{◌≡◌, map}
use Rattle.irc_doorman.specs.Doormen.{silent_among}
use Rattle.irc_doorman.proofs.doorman.silent.Given as goal

-- those that are silent of those so far
abbrev pub invariant-loop-conn : goal.invariant-loop-conn
invariant-loop-conn l = l.conns.items
    ≡ silent_among l.fn.silence l.fn.moment (map (λ e. (e.0.now, e.1.now)) l.yielded)
