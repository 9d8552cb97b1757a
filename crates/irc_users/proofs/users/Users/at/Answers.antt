use Rattle.std.proofs.Common.{◌∙◌, ap, sym, Some, None, option_map}
use Rattle.irc_users.specs.Rosters.{boxed}
use Rattle.irc_users.proofs.NumberedRows.{held_by}
use Rattle.irc_users.proofs.users.Users.at.Goals as goal

pub returns-in-Some : goal.returns-in-Some
returns-in-Some c =
    held_by c.self.inside.seats c.self.inside.heads _ c.self.view_is c.self.invariant c.args.number
    (Some c.deref.result.now)
    (ap (option_map boxed) (sym c.in-Some.ensures) ∙ ap Some (sym c.deref.ensures))

pub returns-in-None : goal.returns-in-None
returns-in-None c =
    held_by c.self.inside.seats c.self.inside.heads _ c.self.view_is c.self.invariant
    c.args.number None
    (ap (option_map boxed) (sym c.in-None.ensures))
