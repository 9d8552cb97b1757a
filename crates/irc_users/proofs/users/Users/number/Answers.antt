use Rattle.std.proofs.Common.{sym, subst, Some, None}
use Rattle.irc_names.specs.Fold.{key}
use Rattle.irc_users.specs.UserTable.{IsNumbered}
use Rattle.irc_users.proofs.Heads.{at_nick}
use Rattle.irc_users.proofs.NumberedRows.{are_numbered, his_number, no_number_there}
use Rattle.irc_users.proofs.users.Users.number.Goals as goal

pub returns-in-Some-clause-value : goal.returns-in-Some-clause-value
returns-in-Some-clause-value c =
    sym (his_number c.self.inside.seats c.self.inside.heads _ c.self.view_is c.self.invariant
    (key c.args.nick.now) c.in-Some.head.now
    (at_nick c.self.inside.heads _ c.args.nick.now
    (Some c.in-Some.head.now) c.as_bytes.ensures.value c.in-Some.ensures))

pub returns-in-Some-clause-numbered : goal.returns-in-Some-clause-numbered
returns-in-Some-clause-numbered c =
    subst (λ n. IsNumbered n) c.self.view_is (are_numbered _ _ c.self.invariant)

pub returns-in-None-clause-value : goal.returns-in-None-clause-value
returns-in-None-clause-value c =
    sym (no_number_there c.self.inside.seats c.self.inside.heads _ c.self.view_is c.self.invariant
    (key c.args.nick.now)
    (at_nick c.self.inside.heads _ c.args.nick.now None c.as_bytes.ensures.value c.in-None.ensures))

pub returns-in-None-clause-numbered : goal.returns-in-None-clause-numbered
returns-in-None-clause-numbered c =
    subst (λ n. IsNumbered n) c.self.view_is (are_numbered _ _ c.self.invariant)
