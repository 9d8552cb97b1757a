use Rattle.std.proofs.Common.{◌∙◌, ap, not, refl, sym, option_map}
use Rattle.irc_names.specs.Fold.{key}
use Rattle.irc_names.specs.Tables.{row}
use Rattle.irc_users.specs.declared.user.User.{User}
use Rattle.irc_users.specs.declared.users.Head.{Head}
use Rattle.irc_users.specs.Rosters.{sitting}
use Rattle.irc_users.specs.UserTable.{NumberedUsers}
use Rattle.irc_users.proofs.NumberedRows.{no_one, told_by}
use Rattle.irc_users.proofs.users.Users.is_visible.Goals as goal

pub returns-in-Some : goal.returns-in-Some
returns-in-Some c =
    told_by (sitting c.self.inside.seats) c.self.inside.heads c.self.invariant (λ (h : Head).
    not h.invisible) (λ (user : User). not user.invisible) (λ _ _. refl) (key c.args.name.now)
    c.in-Some.head.now (sym c.in-Some.ensures)
    ∙ ap (λ (n : NumberedUsers). option_map (λ (user : User). not user.invisible)
    (row n.users (key c.args.name.now))) c.self.view_is

pub returns-in-None : goal.returns-in-None
returns-in-None c =
    sym (ap (option_map (λ (user : User). not user.invisible))
    (no_one c.self.inside.seats c.self.inside.heads _ c.self.view_is c.self.invariant
    (key c.args.name.now) (sym c.in-None.ensures)))
