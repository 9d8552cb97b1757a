use Rattle.std.proofs.Common.{◌∙◌, ap, sym, subst, Some, None, option_map}
use Rattle.irc_names.specs.Fold.{key}
use Rattle.irc_names.specs.Tables.{alter}
use Rattle.irc_tables.specs.Lemmas.RowsAsTable.{alter-absent}
use Rattle.irc_users.specs.Rosters.{boxed, users_in, numbers_in, sitting, IsRoster}
use Rattle.irc_users.proofs.Heads.{at_nick}
use Rattle.irc_users.proofs.NumberedRows.{user_row, no_user, no_number}
use Rattle.irc_users.proofs.SeatMoves.{users_gone, numbers_gone, roster_gone}
use Rattle.irc_users.proofs.users.leave_seat.Goals as goal

pub returns-in-Some-clause-value : goal.returns-in-Some-clause-value
returns-in-Some-clause-value c =
    ap (option_map boxed) c.try_remove.ensures.value
    ∙ sym (user_row (sitting c.args.seats.now) c.args.heads.now (key c.args.nick.now) c.in-Some.head
    (at_nick c.args.heads.now _ c.args.nick.now
    (Some c.in-Some.head) c.as_bytes.ensures.value c.in-Some.ensures.value))

pub returns-in-Some-clause-users : goal.returns-in-Some-clause-users
returns-in-Some-clause-users c =
    users_gone c.args.seats.now c.args.heads.now (key c.args.nick.now) c.in-Some.head c.requires
    (at_nick c.args.heads.now _ c.args.nick.now
    (Some c.in-Some.head) c.as_bytes.ensures.value c.in-Some.ensures.value)
    c.try_remove.new.self c.remove.new.self c.try_remove.ensures.updates
    (c.remove.ensures.after
    ∙ ap (λ n. alter (key n) (λ _. None) c.args.heads.now) c.as_bytes.ensures.value)

pub returns-in-Some-clause-numbers : goal.returns-in-Some-clause-numbers
returns-in-Some-clause-numbers c =
    numbers_gone c.args.seats.now c.args.heads.now (key c.args.nick.now) c.in-Some.head c.requires
    (at_nick c.args.heads.now _ c.args.nick.now
    (Some c.in-Some.head) c.as_bytes.ensures.value c.in-Some.ensures.value)
    c.try_remove.new.self c.remove.new.self c.try_remove.ensures.updates
    (c.remove.ensures.after
    ∙ ap (λ n. alter (key n) (λ _. None) c.args.heads.now) c.as_bytes.ensures.value)

pub returns-in-Some-clause-roster : goal.returns-in-Some-clause-roster
returns-in-Some-clause-roster c =
    roster_gone c.args.seats.now c.args.heads.now (key c.args.nick.now) c.in-Some.head c.requires
    (at_nick c.args.heads.now _ c.args.nick.now
    (Some c.in-Some.head) c.as_bytes.ensures.value c.in-Some.ensures.value)
    c.try_remove.new.self c.remove.new.self c.try_remove.ensures.updates
    (c.remove.ensures.after
    ∙ ap (λ n. alter (key n) (λ _. None) c.args.heads.now) c.as_bytes.ensures.value)

pub returns-in-None-clause-value : goal.returns-in-None-clause-value
returns-in-None-clause-value c =
    sym (no_user (sitting c.args.seats.now) c.args.heads.now (key c.args.nick.now)
    (at_nick c.args.heads.now _ c.args.nick.now None c.as_bytes.ensures.value
    c.in-None.ensures.value))

pub returns-in-None-clause-users : goal.returns-in-None-clause-users
returns-in-None-clause-users c =
    ap (users_in c.args.seats.now)
    ((c.remove.ensures.after
    ∙ ap (λ n. alter (key n) (λ _. None) c.args.heads.now) c.as_bytes.ensures.value)
    ∙ alter-absent c.args.heads.now (key c.args.nick.now) (at_nick c.args.heads.now _
    c.args.nick.now None c.as_bytes.ensures.value c.in-None.ensures.value))
    ∙ sym (alter-absent _ (key c.args.nick.now)
    (no_user (sitting c.args.seats.now) c.args.heads.now (key c.args.nick.now)
    (at_nick c.args.heads.now _ c.args.nick.now None c.as_bytes.ensures.value
    c.in-None.ensures.value)))

pub returns-in-None-clause-numbers : goal.returns-in-None-clause-numbers
returns-in-None-clause-numbers c =
    ap numbers_in
    ((c.remove.ensures.after
    ∙ ap (λ n. alter (key n) (λ _. None) c.args.heads.now) c.as_bytes.ensures.value)
    ∙ alter-absent c.args.heads.now (key c.args.nick.now) (at_nick c.args.heads.now _
    c.args.nick.now None c.as_bytes.ensures.value c.in-None.ensures.value))
    ∙ sym (alter-absent _ (key c.args.nick.now) (no_number c.args.heads.now (key c.args.nick.now)
    (at_nick c.args.heads.now _ c.args.nick.now None c.as_bytes.ensures.value
    c.in-None.ensures.value)))

pub returns-in-None-clause-roster : goal.returns-in-None-clause-roster
returns-in-None-clause-roster c =
    subst (λ hs. IsRoster c.args.seats.now hs)
    (sym ((c.remove.ensures.after
    ∙ ap (λ n. alter (key n) (λ _. None) c.args.heads.now) c.as_bytes.ensures.value)
    ∙ alter-absent c.args.heads.now (key c.args.nick.now) (at_nick c.args.heads.now _
    c.args.nick.now None c.as_bytes.ensures.value c.in-None.ensures.value)))
    c.requires
