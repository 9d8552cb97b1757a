use Rattle.std.proofs.Common.{◌≡◌, map, take}
use Rattle.std.specs.Borrow.{Bor}
use Rattle.irc_users.specs.declared.user.User.{User}
use Rattle.irc_server.proofs.quitting.nicks_at.Given as goal

abbrev pub invariant-loop-user : goal.invariant-loop-user
invariant-loop-user l =
    l.nicks.items ≡ map (λ (user : Bor User). user.now.nick) (take l.user-index l.user-items)
