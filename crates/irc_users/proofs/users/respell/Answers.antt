use Rattle.std.proofs.Common.{◌∙◌, ap, sym, is_some, Some, None}
use Rattle.std.specs.Box.{with_value as box_with}
use Rattle.irc_names.specs.Fold.{key}
use Rattle.irc_users.specs.UserTable.{with_nick}
use Rattle.irc_users.specs.Rosters.{sitting}
use Rattle.irc_users.proofs.Heads.{at_nick}
use Rattle.irc_users.proofs.NumberedRows.{no_user, no_number}
use Rattle.irc_users.proofs.SeatMoves.{free_out, moved_not, nick_users, nick_numbers, nick_roster}
use Rattle.irc_users.proofs.SeatMoves.{on_err, seat_of, there_so}
use Rattle.irc_users.proofs.users.respell.Goals as goal

pub returns-in_default-clause-there : goal.returns-in_default-clause-there
returns-in_default-clause-there c =
    sym (ap is_some (no_user (sitting c.args.seats.now) c.args.heads.now (key c.args.nick.now)
    (at_nick c.args.heads.now _ c.args.nick.now None c.as_bytes.ensures.value
    c.in_default.ensures)))

pub returns-in_default-clause-users : goal.returns-in_default-clause-users
returns-in_default-clause-users c =
    moved_not _ (key c.args.nick.now) (key c.args.new.now) (with_nick c.args.new.now)
    (no_user (sitting c.args.seats.now) c.args.heads.now (key c.args.nick.now)
    (at_nick c.args.heads.now _ c.args.nick.now None c.as_bytes.ensures.value c.in_default.ensures))

pub returns-in_default-clause-numbers : goal.returns-in_default-clause-numbers
returns-in_default-clause-numbers c =
    moved_not _ (key c.args.nick.now) (key c.args.new.now) (λ n. n)
    (no_number c.args.heads.now (key c.args.nick.now)
    (at_nick c.args.heads.now _ c.args.nick.now None c.as_bytes.ensures.value c.in_default.ensures))

pub index_mut-requires : goal.index_mut-requires
index_mut-requires c =
    seat_of c.args.seats.now c.args.heads.now
    (key c.args.nick.now) c.in-Some.head.now c.requires.roster
    (at_nick c.args.heads.now _ c.args.nick.now
    (Some c.in-Some.head.now) c.as_bytes.ensures.value c.in-Some.ensures)

pub returns-in_err-move_head-clause-found : goal.returns-in_err-move_head-clause-found
returns-in_err-move_head-clause-found c =
    on_err c.from_residual.result
    (there_so c.args.seats.now c.args.heads.now
    (key c.args.nick.now) c.in-Some.head.now c.requires.roster
    (at_nick c.args.heads.now _ c.args.nick.now
    (Some c.in-Some.head.now) c.as_bytes.ensures.value c.in-Some.ensures))

pub returns-clause-there : goal.returns-clause-there
returns-clause-there c =
    sym (there_so c.args.seats.now c.args.heads.now
    (key c.args.nick.now) c.in-Some.head.now c.requires.roster
    (at_nick c.args.heads.now _ c.args.nick.now
    (Some c.in-Some.head.now) c.as_bytes.ensures.value c.in-Some.ensures))

pub returns-clause-users : goal.returns-clause-users
returns-clause-users c =
    nick_users c.args.seats.now c.args.heads.now
    (key c.args.nick.now) c.in-Some.head.now c.requires.roster
    (at_nick c.args.heads.now _ c.args.nick.now
    (Some c.in-Some.head.now) c.as_bytes.ensures.value c.in-Some.ensures)
    c.index_mut.result.now (box_with c.index_mut.result.now (with_nick c.copy-2.result
    c.deref_mut.result.now)) c.index_mut.ensures.value c.args.new.now
    c.move_head.new.heads
    (record {
      nick = c.copy.result;
      number = c.in-Some.head.now.number;
      invisible = c.in-Some.head.now.invisible;
    })
    (ap (λ nick. with_nick nick c.deref_mut.result.now) c.copy-2.ensures
    ∙ ap (with_nick c.args.new.now) c.deref_mut.ensures.value)
    (ap (λ nick. record {
      nick = nick;
      number = c.in-Some.head.now.number;
      invisible = c.in-Some.head.now.invisible;
    }) c.copy.ensures)
    (free_out c.args.seats.now c.args.heads.now c.args.nick.now c.args.new.now c.requires.roster
    c.requires.free)
    c.in_ok-move_head.ensures.ok

pub returns-clause-numbers : goal.returns-clause-numbers
returns-clause-numbers c =
    nick_numbers c.args.seats.now c.args.heads.now
    (key c.args.nick.now) c.in-Some.head.now c.requires.roster
    (at_nick c.args.heads.now _ c.args.nick.now
    (Some c.in-Some.head.now) c.as_bytes.ensures.value c.in-Some.ensures)
    c.index_mut.result.now (box_with c.index_mut.result.now (with_nick c.copy-2.result
    c.deref_mut.result.now)) c.index_mut.ensures.value c.args.new.now
    c.move_head.new.heads
    (record {
      nick = c.copy.result;
      number = c.in-Some.head.now.number;
      invisible = c.in-Some.head.now.invisible;
    })
    (ap (λ nick. with_nick nick c.deref_mut.result.now) c.copy-2.ensures
    ∙ ap (with_nick c.args.new.now) c.deref_mut.ensures.value)
    (ap (λ nick. record {
      nick = nick;
      number = c.in-Some.head.now.number;
      invisible = c.in-Some.head.now.invisible;
    }) c.copy.ensures)
    (free_out c.args.seats.now c.args.heads.now c.args.nick.now c.args.new.now c.requires.roster
    c.requires.free)
    c.in_ok-move_head.ensures.ok

pub returns-clause-roster : goal.returns-clause-roster
returns-clause-roster c =
    nick_roster c.args.seats.now c.args.heads.now
    (key c.args.nick.now) c.in-Some.head.now c.requires.roster
    (at_nick c.args.heads.now _ c.args.nick.now
    (Some c.in-Some.head.now) c.as_bytes.ensures.value c.in-Some.ensures)
    c.index_mut.result.now (box_with c.index_mut.result.now (with_nick c.copy-2.result
    c.deref_mut.result.now)) c.index_mut.ensures.value c.args.new.now
    c.move_head.new.heads
    (record {
      nick = c.copy.result;
      number = c.in-Some.head.now.number;
      invisible = c.in-Some.head.now.invisible;
    })
    (ap (λ nick. with_nick nick c.deref_mut.result.now) c.copy-2.ensures
    ∙ ap (with_nick c.args.new.now) c.deref_mut.ensures.value)
    (ap (λ nick. record {
      nick = nick;
      number = c.in-Some.head.now.number;
      invisible = c.in-Some.head.now.invisible;
    }) c.copy.ensures)
    (free_out c.args.seats.now c.args.heads.now c.args.nick.now c.args.new.now c.requires.roster
    c.requires.free)
    c.in_ok-move_head.ensures.ok
