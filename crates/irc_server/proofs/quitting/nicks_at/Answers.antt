use Rattle.std.proofs.Common.{◌∙◌, ap, map, sym}
use Rattle.std.proofs.lemmas.List.{take_all}
use Rattle.std.proofs.lemmas.Simd.{map-map}
use Rattle.std.specs.Borrow.{Bor}
use Rattle.irc_users.specs.declared.user.User.{User}
use Rattle.irc_server.proofs.quitting.nicks_at.Goals as goal

pub returns : goal.returns
returns c =
    c.loop-user.invariant
    ∙ ap (map (λ (user : Bor User). user.now.nick))
    (take_all c.loop-user.user-index c.deref-user-items.result.now c.loop-user-test.false
    ∙ c.deref-user-items.ensures.value)
    ∙ sym (map-map (λ (user : User). user.nick)
    (λ (user : Bor User). user.now) c.in_ok-users.users.items)
    ∙ ap (map (λ (user : User). user.nick)) c.in_ok-users.ensures
