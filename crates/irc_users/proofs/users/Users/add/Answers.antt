use Rattle.std.proofs.Common.{◌≡◌, ◌∙◌, is_some, false, true, rules, sym}
use Rattle.irc_names.specs.Fold.{key}
use Rattle.irc_names.specs.Tables.{row}
use Rattle.irc_users.proofs.NumberedRows.{free_of_heads, user_by_head}
use Rattle.irc_users.proofs.users.Users.add.Goals as goal

pub returns-then-has_head-clause-taken : goal.returns-then-has_head-clause-taken
returns-then-has_head-clause-taken c =
    let there : is_some (row c.args.self.now.users (key c.args.user.nick)) ≡ true =
    user_by_head c.self.inside.seats c.self.inside.heads _ c.self.view_is c.self.invariant
    (key c.args.user.nick) ∙ sym c.has_head.ensures ∙ c.if-has_head.true in
    search (rules, there)

pub add_free-requires : goal.add_free-requires
add_free-requires c =
    free_of_heads c.self.inside.seats c.self.inside.heads _ c.self.view_is c.self.invariant
    (key c.args.user.nick)
    (sym c.has_head.ensures ∙ c.if-has_head.false)

pub returns-then-is_err-clause-taken : goal.returns-then-is_err-clause-taken
returns-then-is_err-clause-taken c =
    let absent : is_some (row c.args.self.now.users (key c.args.user.nick)) ≡ false =
    user_by_head c.self.inside.seats c.self.inside.heads _ c.self.view_is c.self.invariant
    (key c.args.user.nick) ∙ sym c.has_head.ensures ∙ c.if-has_head.false in
    search (rules, absent)

pub returns-clause-taken : goal.returns-clause-taken
returns-clause-taken c =
    let absent : is_some (row c.args.self.now.users (key c.args.user.nick)) ≡ false =
    user_by_head c.self.inside.seats c.self.inside.heads _ c.self.view_is c.self.invariant
    (key c.args.user.nick) ∙ sym c.has_head.ensures ∙ c.if-has_head.false in
    search (rules, absent)
