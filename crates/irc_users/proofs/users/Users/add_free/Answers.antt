use Rattle.std.proofs.Common.{◌∙◌, ap}
use Rattle.irc_names.specs.Fold.{key}
use Rattle.irc_names.specs.Tables.{row}
use Rattle.irc_users.specs.declared.user.User.{User}
use Rattle.irc_users.proofs.NumberedRows.{no_head}
use Rattle.irc_users.proofs.users.Users.add_free.Goals as goal

pub take_seat-requires-clause-free : goal.take_seat-requires-clause-free
take_seat-requires-clause-free c =
    ap (λ (user : User). row c.self.inside.heads (key user.nick)) c.in_ok-user.ensures.ok
    ∙ no_head c.self.inside.seats c.self.inside.heads _ c.self.view_is c.self.invariant
    (key c.args.user.nick) c.requires
