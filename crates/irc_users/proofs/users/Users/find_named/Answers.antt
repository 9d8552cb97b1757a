use Rattle.std.proofs.Common.{sym}
use Rattle.irc_names.specs.Fold.{key}
use Rattle.irc_users.proofs.NumberedRows.{his_number, no_one}
use Rattle.irc_users.proofs.users.Users.find_named.Goals as goal

pub returns-in-Some : goal.returns-in-Some
returns-in-Some c =
    c.at.ensures.theirs (key c.args.name.now)
    (his_number c.self.inside.seats c.self.inside.heads _ c.self.view_is c.self.invariant
    (key c.args.name.now) c.in-Some.head.now (sym c.in-Some.ensures))

pub returns-in-None : goal.returns-in-None
returns-in-None c = sym (no_one c.self.inside.seats c.self.inside.heads _ c.self.view_is
    c.self.invariant (key c.args.name.now) (sym c.in-None.ensures))
