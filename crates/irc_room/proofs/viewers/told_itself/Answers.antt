use Rattle.std.proofs.Common.{◌≡◌, ◌∙◌, ◌&&◌, false, sym, ap, map, rules}
use Rattle.irc_names.specs.Fold.{same}
use Rattle.irc_users.specs.UserTable.{is_shown}
use Rattle.irc_room.proofs.WhoSees.{nobody_chosen}
use Rattle.irc_room.proofs.viewers.told_itself.Goals as goal

pub returns-then-not-is_shown : goal.returns-then-not-is_shown
returns-then-not-is_shown c =
    let quiet : is_shown c.args.change.now ≡ false = sym c.is_shown.ensures ∙ search rules in
    ap (map (λ user. user.now)) c.new.ensures.items
    ∙ nobody_chosen c.args.tables.now.users _
    (λ viewer. ap (λ shown. shown && same c.args.nick.now viewer) quiet)
