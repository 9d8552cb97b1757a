use Rattle.std.proofs.Common.{◌≡◌, map, take}
use Rattle.irc_line.specs.Bytes.{cut}
use Rattle.irc_numerics.specs.Replies.{spaced}
use Rattle.irc_users.specs.declared.user.User.{User}
use Rattle.irc_queries.proofs.ison.nicks_text.Given as goal

abbrev pub invariant-loop-i : goal.invariant-loop-i
invariant-loop-i l = l.text.items
    ≡ cut (spaced (map (λ (user : User). user.nick) (map (λ user. user.now) (take l.i l.users))))
