use Rattle.std.proofs.Common.{ap, sym, subst, ◌∙◌, true}
use Rattle.std.specs.List.{list_all}
use Rattle.std.specs.Cmp.{first_so}
use Rattle.irc_names.specs.Fold.{key}
use Rattle.irc_tables.specs.Lemmas.RowsAsTable.{ok_also}
use Rattle.irc_room.specs.After.{after}
use Rattle.irc_room.specs.Effects.{has_user, needs_users}
use Rattle.irc_stage.specs.Loops.Hearing.{hearers}
use Rattle.irc_stage.specs.Loops.Listening.{conns_at, index_after, AreSo}
use Rattle.irc_stage.proofs.Hearing.{join_heard, sent_to}
use Rattle.irc_stage.proofs.listeners.Listeners.show.Goals as goal

pub returns-in_ok-follow-in-Join-clause-shown : goal.returns-in_ok-follow-in-Join-clause-shown
returns-in_ok-follow-in-Join-clause-shown c =
    let room = c.args.room.now.room in
    let by_nick = c.args.clients.now.by_nick in
    let lists = c.follow.new.self.lists in
    ok_also c.tell.result
    (sent_to c.args.line.now.items c.args.out.now c.tell.new.out
    (conns_at lists (key c.as_bytes.result.now))
    (hearers room by_nick c.args.effect.now)
    (ap (λ name. conns_at lists (key name)) c.as_bytes.ensures.value
    ∙ join_heard room c.own.ensures.well_formed by_nick lists c.in-Join.nick c.in-Join.channel
    c.in-Join.op
    (first_so _ true (sym (ap (λ e. list_all (has_user room) (needs_users e)) c.in-Join.is)
    ∙ c.requires.possible.users_there))
    (subst (λ e. AreSo lists (after room e) (index_after e by_nick)) c.in-Join.is
    c.in_ok-follow-in-Join.ensures)
    ∙ ap (hearers room by_nick) (sym c.in-Join.is)))
    c.tell.ensures
