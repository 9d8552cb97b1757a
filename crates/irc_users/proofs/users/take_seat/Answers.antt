use Rattle.std.proofs.Common.{◌∙◌, ap, refl, sym, Some}
use Rattle.std.specs.Global.{Box}
use Rattle.slab.specs.Slab.{Slab}
use Rattle.irc_names.specs.Fold.{key}
use Rattle.irc_names.specs.Tables.{alter}
use Rattle.irc_users.specs.declared.user.User.{User}
use Rattle.irc_users.specs.declared.users.Head.{Head}
use Rattle.irc_users.specs.UserTable.{NumberedUsers}
use Rattle.irc_users.specs.Rosters.{head}
use Rattle.irc_users.proofs.Heads.{numbered_kept, roster_kept}
use Rattle.irc_users.proofs.SeatMoves.{users_come, numbers_come, roster_come}
use Rattle.irc_users.proofs.users.take_seat.Goals as goal

pub returns-clause-users : goal.returns-clause-users
returns-clause-users c =
    users_come c.reserve.new.self c.insert_reserved.new.self c.args.heads.now c.put_head.new.heads
    c.insert_reserved.result c.args.user
    (roster_kept c.args.seats.now c.reserve.new.self c.args.heads.now c.args.heads.now
    (record {
      seats = ap (λ (s : Slab (Box User)). s.slots) c.in_ok-reserve.ensures.rest_kept;
      heads = refl;
    }) c.requires.roster)
    c.insert_reserved.ensures.was_vacant c.requires.free c.insert_reserved.ensures.updates
    (c.in_ok-put_head.ensures.ok
    ∙ ap (λ (h : Head). alter (key h.nick) (λ _. Some h) c.args.heads.now)
    (c.of.ensures ∙ ap (head c.vacant_key-number.result) c.deref.ensures
    ∙ ap (λ n. head n c.args.user.value) (c.vacant_key-number.ensures.value
    ∙ sym c.insert_reserved.ensures.key)))
    ∙ ap (λ (n : NumberedUsers). alter (key c.args.user.value.nick)
    (λ _. Some c.args.user.value) n.users)
    (numbered_kept c.args.seats.now c.reserve.new.self c.args.heads.now c.args.heads.now
    (record {
      seats = ap (λ (s : Slab (Box User)). s.slots) c.in_ok-reserve.ensures.rest_kept;
      heads = refl;
    }))

pub returns-clause-numbers : goal.returns-clause-numbers
returns-clause-numbers c =
    numbers_come c.reserve.new.self c.insert_reserved.new.self c.args.heads.now c.put_head.new.heads
    c.insert_reserved.result c.args.user
    (roster_kept c.args.seats.now c.reserve.new.self c.args.heads.now c.args.heads.now
    (record {
      seats = ap (λ (s : Slab (Box User)). s.slots) c.in_ok-reserve.ensures.rest_kept;
      heads = refl;
    }) c.requires.roster)
    c.insert_reserved.ensures.was_vacant c.requires.free c.insert_reserved.ensures.updates
    (c.in_ok-put_head.ensures.ok
    ∙ ap (λ (h : Head). alter (key h.nick) (λ _. Some h) c.args.heads.now)
    (c.of.ensures ∙ ap (head c.vacant_key-number.result) c.deref.ensures
    ∙ ap (λ n. head n c.args.user.value) (c.vacant_key-number.ensures.value
    ∙ sym c.insert_reserved.ensures.key)))

pub returns-clause-roster : goal.returns-clause-roster
returns-clause-roster c =
    roster_come c.reserve.new.self c.insert_reserved.new.self c.args.heads.now c.put_head.new.heads
    c.insert_reserved.result c.args.user
    (roster_kept c.args.seats.now c.reserve.new.self c.args.heads.now c.args.heads.now
    (record {
      seats = ap (λ (s : Slab (Box User)). s.slots) c.in_ok-reserve.ensures.rest_kept;
      heads = refl;
    }) c.requires.roster)
    c.insert_reserved.ensures.was_vacant c.requires.free c.insert_reserved.ensures.updates
    (c.in_ok-put_head.ensures.ok
    ∙ ap (λ (h : Head). alter (key h.nick) (λ _. Some h) c.args.heads.now)
    (c.of.ensures ∙ ap (head c.vacant_key-number.result) c.deref.ensures
    ∙ ap (λ n. head n c.args.user.value) (c.vacant_key-number.ensures.value
    ∙ sym c.insert_reserved.ensures.key)))
