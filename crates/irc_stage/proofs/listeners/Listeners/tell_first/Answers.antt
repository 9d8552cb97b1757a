use Rattle.std.proofs.Common.{rules, ap, sym, ◌∙◌, true}
use Rattle.std.specs.List.{list_all}
use Rattle.std.specs.Cmp.{first_so, second_so}
use Rattle.irc_tables.specs.Lemmas.RowsAsTable.{ok_also}
use Rattle.irc_room.specs.Effects.{has_user, needs_users}
use Rattle.irc_stage.specs.Loops.Hearing.{hearers, told_to}
use Rattle.irc_stage.proofs.Hearing.{itself_heard, one_heard, quit_heard}
use Rattle.irc_stage.proofs.Hearing.{told_in, unseen}
use Rattle.irc_stage.proofs.listeners.Listeners.tell_first.Goals as goal

pub returns-in-Rename : goal.returns-in-Rename
returns-in-Rename c =
    ok_also c.tell_renamed.result
    (λ is. is ∙ ap (λ e. told_to c.args.line.now.items (hearers c.args.room.now.room
    c.args.clients.now.by_nick e) c.args.out.now) (sym c.in-Rename.is))
    (c.tell_renamed.ensures c.in-Rename.new)

pub returns-in-Quit : goal.returns-in-Quit
returns-in-Quit c =
    ok_also c.tell_beside.result
    (λ is. quit_heard c.args.room.now.room _ c.args.clients.now.by_nick c.requires.indexed
    c.in-Quit.nick c.in-Quit.text c.args.line.now.items c.args.out.now c.tell_beside.new.out
    c.number_of.result c.number_of.ensures is
    ∙ ap (λ e. told_to c.args.line.now.items (hearers c.args.room.now.room
    c.args.clients.now.by_nick e) c.args.out.now) (sym c.in-Quit.is))
    (c.tell_beside.ensures c.args.clients.now.by_nick c.requires.so)

pub returns-in-Part : goal.returns-in-Part
returns-in-Part c =
    ok_also c.tell.result
    (told_in c.args.room.now.room c.own.ensures.well_formed c.args.clients.now.by_nick
    c.args.self.now.lists c.requires.so c.as_bytes.result.now c.in-Part.channel
    c.as_bytes.ensures.value c.args.effect.now (ap (hearers c.args.room.now.room
    c.args.clients.now.by_nick)
    (sym c.in-Part.is)) c.args.line.now.items c.args.out.now c.tell.new.out)
    c.tell.ensures

pub returns-in-Kick : goal.returns-in-Kick
returns-in-Kick c =
    ok_also c.tell-in-Kick.result
    (told_in c.args.room.now.room c.own.ensures.well_formed c.args.clients.now.by_nick
    c.args.self.now.lists c.requires.so c.as_bytes-in-Kick.result.now c.in-Kick.channel
    c.as_bytes-in-Kick.ensures.value c.args.effect.now (ap (hearers c.args.room.now.room
    c.args.clients.now.by_nick)
    (sym c.in-Kick.is)) c.args.line.now.items c.args.out.now c.tell-in-Kick.new.out)
    c.tell-in-Kick.ensures

pub returns-in-ChangeModes : goal.returns-in-ChangeModes
returns-in-ChangeModes c =
    ok_also c.tell-in-ChangeModes.result
    (told_in c.args.room.now.room c.own.ensures.well_formed c.args.clients.now.by_nick
    c.args.self.now.lists c.requires.so c.as_bytes-in-ChangeModes.result.now
    c.in-ChangeModes.channel
    c.as_bytes-in-ChangeModes.ensures.value c.args.effect.now
    (ap (hearers c.args.room.now.room c.args.clients.now.by_nick) (sym c.in-ChangeModes.is))
    c.args.line.now.items c.args.out.now c.tell-in-ChangeModes.new.out)
    c.tell-in-ChangeModes.ensures

pub returns-in-SetTopic : goal.returns-in-SetTopic
returns-in-SetTopic c =
    ok_also c.tell-in-SetTopic.result
    (told_in c.args.room.now.room c.own.ensures.well_formed c.args.clients.now.by_nick
    c.args.self.now.lists c.requires.so c.as_bytes-in-SetTopic.result.now
    c.in-SetTopic.channel
    c.as_bytes-in-SetTopic.ensures.value c.args.effect.now
    (ap (hearers c.args.room.now.room c.args.clients.now.by_nick) (sym c.in-SetTopic.is))
    c.args.line.now.items c.args.out.now c.tell-in-SetTopic.new.out)
    c.tell-in-SetTopic.ensures

pub returns-in-Invite : goal.returns-in-Invite
returns-in-Invite c =
    ok_also c.tell_one.result
    (λ is. is
    ∙ ap (λ conns. told_to c.args.line.now.items conns c.args.out.now)
    (one_heard c.args.room.now.room c.own.ensures.well_formed c.args.clients.now.by_nick
    c.in-Invite.nick
    (first_so _ true (second_so _ _ (sym (ap (λ e. list_all (has_user c.args.room.now.room)
    (needs_users e)) c.in-Invite.is) ∙ c.requires.possible.users_there)))
    ∙ ap (hearers c.args.room.now.room c.args.clients.now.by_nick) (sym c.in-Invite.is)))
    c.tell_one.ensures

pub returns-in-ChangeUser : goal.returns-in-ChangeUser
returns-in-ChangeUser c =
    ok_also c.tell_itself.result
    (λ is. is
    ∙ ap (λ conns. told_to c.args.line.now.items conns c.args.out.now)
    (itself_heard c.args.room.now.room c.own.ensures.well_formed c.args.clients.now.by_nick
    c.in-ChangeUser.nick c.in-ChangeUser.change
    (first_so _ true (sym (ap (λ e. list_all (has_user c.args.room.now.room)
    (needs_users e)) c.in-ChangeUser.is) ∙ c.requires.possible.users_there))
    ∙ ap (hearers c.args.room.now.room c.args.clients.now.by_nick) (sym c.in-ChangeUser.is)))
    c.tell_itself.ensures

pub returns-in_default : goal.returns-in_default
returns-in_default c =
    unseen c.args.room.now.room c.args.clients.now.by_nick c.args.effect.now
    (search rules) c.args.line.now.items c.args.out.now
