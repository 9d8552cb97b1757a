use Rattle.std.proofs.Common.{◌∙◌, ap, sym, subst, filter, List}
use Rattle.std.specs.FinMap.{values}
use Rattle.irc_users.specs.declared.user.User.{User}
use Rattle.irc_users.specs.UserTable.{FindsUsers, NumberedUsers, is_home}
use Rattle.irc_users.proofs.NumberedRows.{values-users}
use Rattle.irc_users.proofs.users.Users.by_home.Goals as goal

pub returns : goal.returns
returns c =
    subst (λ (us : List User). FindsUsers c.homed_at.result (filter (is_home c.args.home.now) us))
    (sym (values-users c.self.inside.seats c.self.inside.heads c.self.invariant)
    ∙ ap (λ (n : NumberedUsers). values n.users) c.self.view_is)
    c.homed_at.ensures
