use Rattle.std.specs.Prelude.{IfOk}
use Rattle.std.proofs.Common.{◌≡◌, ◌∙◌, ap, map, subst}
use Rattle.irc_room.proofs.AudienceLaw.{nicknames_found}
use Rattle.irc_room.proofs.viewer_names.member_nicks.Goals as goal

pub returns : goal.returns
returns c =
    subst (λ all. IfOk c.nicknames.result (λ nicks. nicks.items ≡ all))
    (ap (λ users. map (λ user. user.now.nick) users) c.as_slice.ensures.value
    ∙ nicknames_found c.in_ok-users.users.items _ c.in_ok-users.ensures) c.nicknames.ensures
