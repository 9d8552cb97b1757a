use Rattle.std.proofs.Common.{◌≡◌, map, take}
use Rattle.irc_line.specs.Bytes.{cut}
use Rattle.irc_numerics.specs.Replies.{spaced}
use Rattle.irc_queries.specs.Userhost.{host_shown}
use Rattle.irc_queries.proofs.userhost.hosts_text.Given as goal

abbrev pub invariant-loop-i : goal.invariant-loop-i
invariant-loop-i l = l.text.items
    ≡ cut (spaced (map (host_shown l.programs) (map (λ user. user.now) (take l.i l.users))))
