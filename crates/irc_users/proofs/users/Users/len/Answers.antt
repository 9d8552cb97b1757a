use Rattle.std.proofs.Common.{◌∙◌, ap, length}
use Rattle.std.specs.FinMap.{keys}
use Rattle.irc_users.specs.UserTable.{NumberedUsers}
use Rattle.irc_users.proofs.NumberedRows.{length-users}
use Rattle.irc_users.proofs.users.Users.len.Goals as goal

pub returns : goal.returns
returns c =
    c.len.ensures ∙ length-users c.self.inside.seats c.self.inside.heads c.self.invariant
    ∙ ap (λ (n : NumberedUsers). length (keys n.users)) c.self.view_is
