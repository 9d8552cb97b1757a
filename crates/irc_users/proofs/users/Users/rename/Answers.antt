use Rattle.std.proofs.Common.{◌∙◌, ap, sym, cond, not, true, is_none, Some, None}
use Rattle.irc_names.specs.Fold.{key}
use Rattle.irc_names.specs.Tables.{row}
use Rattle.irc_users.specs.declared.fault.RenameFault.TheVariants.{Taken, NoSuchUser}
use Rattle.irc_users.specs.UserTable.{NumberedUsers, is_taken, rename_fault}
use Rattle.irc_users.proofs.SeatMoves.{fault_so, taken_so}
use Rattle.irc_users.proofs.users.Users.rename.Goals as goal

pub returns-then-is_taken-clause-fault : goal.returns-then-is_taken-clause-fault
returns-then-is_taken-clause-fault c =
    ap (λ taken. cond taken (Some Taken)
    (cond (is_none (row c.args.self.now.users (key c.args.nick.now))) (Some NoSuchUser) None))
    (ap (λ (n : NumberedUsers). is_taken n.users c.args.nick.now c.args.new.now)
    (sym c.self.view_is)
    ∙ sym (taken_so c.self.inside.seats c.self.inside.heads c.self.invariant c.args.nick.now
    c.args.new.now c.is_taken.result c.is_taken.ensures) ∙ c.if-is_taken.true)

pub respell-requires-clause-free : goal.respell-requires-clause-free
respell-requires-clause-free c =
    sym (taken_so c.self.inside.seats c.self.inside.heads c.self.invariant c.args.nick.now
    c.args.new.now c.is_taken.result c.is_taken.ensures) ∙ c.if-is_taken.false

pub returns-in_default-clause-fault : goal.returns-in_default-clause-fault
returns-in_default-clause-fault c =
    ap (λ (n : NumberedUsers). rename_fault n.users c.args.nick.now c.args.new.now)
    (sym c.self.view_is)
    ∙ fault_so _ c.args.nick.now c.args.new.now true
    (sym (taken_so c.self.inside.seats c.self.inside.heads c.self.invariant c.args.nick.now
    c.args.new.now c.is_taken.result c.is_taken.ensures) ∙ c.if-is_taken.false)
    (sym c.in_default.ensures.found)

pub returns-then-not-there-clause-fault : goal.returns-then-not-there-clause-fault
returns-then-not-there-clause-fault c =
    ap (λ (n : NumberedUsers). rename_fault n.users c.args.nick.now c.args.new.now)
    (sym c.self.view_is)
    ∙ fault_so _ c.args.nick.now c.args.new.now c.in-Ok.there
    (sym (taken_so c.self.inside.seats c.self.inside.heads c.self.invariant
    c.args.nick.now c.args.new.now c.is_taken.result c.is_taken.ensures)
    ∙ c.if-is_taken.false) c.in-Ok.ensures.there
    ∙ ap (λ b. cond (not b) (Some NoSuchUser) None) c.if-not-there.true

pub returns-clause-fault : goal.returns-clause-fault
returns-clause-fault c =
    ap (λ (n : NumberedUsers). rename_fault n.users c.args.nick.now c.args.new.now)
    (sym c.self.view_is)
    ∙ fault_so _ c.args.nick.now c.args.new.now c.in-Ok.there
    (sym (taken_so c.self.inside.seats c.self.inside.heads c.self.invariant
    c.args.nick.now c.args.new.now c.is_taken.result c.is_taken.ensures)
    ∙ c.if-is_taken.false) c.in-Ok.ensures.there
    ∙ ap (λ b. cond (not b) (Some NoSuchUser) None) c.if-not-there.false
