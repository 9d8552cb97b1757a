use Rattle.std.proofs.Common.{◌++◌, ◌∙◌, ap, map}
use Rattle.std.specs.FinMap.{values}
use Rattle.irc_line.specs.Messages.{text}
use Rattle.irc_tables.specs.Lemmas.RowsAsTable.{ok_also}
use Rattle.irc_burst_lines.specs.Loops.Telling.{change_lines, lines_now, user_lines, users_now}
use Rattle.irc_burst_lines.proofs.Told.{two_told}
use Rattle.irc_burst_lines.proofs.bursting.tell_users.Goals as goal

pub returns : goal.returns
returns c =
    let room = c.args.room.now.room in
    let known = c.args.routes.now in
    let introduced = user_lines known c.args.link (values room.users) in
    let changed = change_lines room known c.args.link (values room.users) in
    ok_also c.tell_each_change.result
    (λ told. two_told introduced changed _ _ _
    (c.in_ok-tell_each_user.ensures
    ∙ ap (λ users. lines_now c.args.lines.now.items
    ++ map text (user_lines known c.args.link users))
    (ap users_now c.as_slice.ensures.value ∙ c.in_ok-users.ensures))
    (told
    ∙ ap (λ users. lines_now c.tell_each_user.new.lines.items
    ++ map text (change_lines room known c.args.link users))
    (ap users_now c.as_slice-2.ensures.value ∙ c.in_ok-users.ensures)))
    c.tell_each_change.ensures
