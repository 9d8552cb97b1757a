use Rattle.std.proofs.Common.{◌∙◌, ap, Some, None}
use Rattle.std.specs.Box.{with_value as box_with}
use Rattle.irc_names.specs.Fold.{key}
use Rattle.irc_names.specs.Tables.{alter}
use Rattle.irc_users.specs.declared.users.Head.{Head}
use Rattle.irc_users.specs.UserTable.{with_change}
use Rattle.irc_users.specs.Rosters.{head, sitting}
use Rattle.irc_users.proofs.Heads.{at_nick}
use Rattle.irc_users.proofs.NumberedRows.{no_user}
use Rattle.irc_users.proofs.SeatMoves.{head_there, seat_of, set_absent, set_users, set_numbers}
use Rattle.irc_users.proofs.SeatMoves.{set_roster}
use Rattle.irc_users.proofs.users.change_user.Goals as goal

pub returns-in_default-clause-users : goal.returns-in_default-clause-users
returns-in_default-clause-users c =
    set_absent _ (key c.args.nick.now) c.args.change.now
    (no_user (sitting c.args.seats.now) c.args.heads.now (key c.args.nick.now)
    (at_nick c.args.heads.now _ c.args.nick.now None c.as_bytes.ensures.value c.in_default.ensures))

pub index_mut-user-requires : goal.index_mut-user-requires
index_mut-user-requires c =
    seat_of c.args.seats.now c.args.heads.now (key c.args.nick.now) c.in-Some.head.now c.requires
    (at_nick c.args.heads.now _ c.args.nick.now
    (Some c.in-Some.head.now) c.as_bytes.ensures.value c.in-Some.ensures)

pub unreachable-requires : goal.unreachable-requires
unreachable-requires c =
    cc (c.in_default-put_head.ensures.there
    (head_there c.args.seats.now c.args.heads.now (key c.args.nick.now) c.in-Some.head.now
    c.requires
    (at_nick c.args.heads.now _ c.args.nick.now
    (Some c.in-Some.head.now) c.as_bytes.ensures.value c.in-Some.ensures)
    c.index_mut-user.result.now (box_with c.index_mut-user.result.now c.set_in.new.user)
    c.index_mut-user.ensures.value c.args.change.now
    (c.set_in.ensures ∙ ap (with_change c.args.change.now) c.deref_mut.ensures.value)
    c.of.result (c.of.ensures ∙ ap (head c.in-Some.head.now.number) c.deref.ensures)))

pub returns-clause-users : goal.returns-clause-users
returns-clause-users c =
    set_users c.args.seats.now c.args.heads.now (key c.args.nick.now) c.in-Some.head.now c.requires
    (at_nick c.args.heads.now _ c.args.nick.now
    (Some c.in-Some.head.now) c.as_bytes.ensures.value c.in-Some.ensures)
    c.index_mut-user.result.now (box_with c.index_mut-user.result.now c.set_in.new.user)
    c.index_mut-user.ensures.value c.args.change.now c.put_head.new.heads
    (c.set_in.ensures ∙ ap (with_change c.args.change.now) c.deref_mut.ensures.value)
    (c.in-Ok.ensures.ok
    ∙ ap (λ (k : Head). alter (key k.nick) (λ _. Some k) c.args.heads.now)
    (c.of.ensures ∙ ap (head c.in-Some.head.now.number) c.deref.ensures))

pub returns-clause-numbers : goal.returns-clause-numbers
returns-clause-numbers c =
    set_numbers c.args.seats.now c.args.heads.now
    (key c.args.nick.now) c.in-Some.head.now c.requires
    (at_nick c.args.heads.now _ c.args.nick.now
    (Some c.in-Some.head.now) c.as_bytes.ensures.value c.in-Some.ensures)
    c.index_mut-user.result.now (box_with c.index_mut-user.result.now c.set_in.new.user)
    c.index_mut-user.ensures.value c.args.change.now c.put_head.new.heads
    (c.set_in.ensures ∙ ap (with_change c.args.change.now) c.deref_mut.ensures.value)
    (c.in-Ok.ensures.ok
    ∙ ap (λ (k : Head). alter (key k.nick) (λ _. Some k) c.args.heads.now)
    (c.of.ensures ∙ ap (head c.in-Some.head.now.number) c.deref.ensures))

pub returns-clause-roster : goal.returns-clause-roster
returns-clause-roster c =
    set_roster c.args.seats.now c.args.heads.now
    (key c.args.nick.now) c.in-Some.head.now c.requires
    (at_nick c.args.heads.now _ c.args.nick.now
    (Some c.in-Some.head.now) c.as_bytes.ensures.value c.in-Some.ensures)
    c.index_mut-user.result.now (box_with c.index_mut-user.result.now c.set_in.new.user)
    c.index_mut-user.ensures.value c.args.change.now c.put_head.new.heads
    (c.set_in.ensures ∙ ap (with_change c.args.change.now) c.deref_mut.ensures.value)
    (c.in-Ok.ensures.ok
    ∙ ap (λ (k : Head). alter (key k.nick) (λ _. Some k) c.args.heads.now)
    (c.of.ensures ∙ ap (head c.in-Some.head.now.number) c.deref.ensures))
