use Rattle.std.proofs.Common.{◌++◌, ◌∙◌, ap, sym, map, filter}
use Rattle.std.specs.List.{flat_map}
use Rattle.std.specs.FinMap.{values}
use Rattle.irc_line.specs.Messages.{text}
use Rattle.irc_link_writer.specs.Written.{introduction}
use Rattle.irc_burst_lines.specs.Loops.Telling.{channel_told, is_near_user, lines_now, row_parts}
use Rattle.irc_burst_lines.specs.Loops.Telling.{change_lines, rows_now}
use Rattle.irc_burst_lines.proofs.SideTold.{side_told}
use Rattle.irc_burst_lines.proofs.Told.{two_told}
use Rattle.irc_burst_lines.proofs.bursting.burst.Goals as goal

pub returns : goal.returns
returns c =
    let room = c.args.room.now.room in
    let known = c.args.routes.now in
    let servers = map (row_parts known) (rows_now c.as_slice.result.now) in
    let users =
    map (introduction known) (filter (is_near_user known c.args.link) (values room.users))
    ++ change_lines room known c.args.link (values room.users) in
    let channels = flat_map (channel_told known c.args.link room.users) (values room.channels) in
    let rows = ap (λ rows. map (row_parts known) (rows_now rows)) c.as_slice.ensures.value
    ∙ ap (map (row_parts known)) c.in_ok-servers.ensures in
    two_told servers (users ++ channels) _ _ _ c.in_ok-tell_servers.ensures
    (two_told users channels _ _ _ c.in_ok-tell_users.ensures c.in_ok-tell_channels.ensures)
    ∙ ap (λ lines. lines_now lines ++ map text (servers ++ (users ++ channels)))
    c.new-lines.ensures.items
    ∙ ap (λ told. map text (told ++ (users ++ channels))) rows
    ∙ ap (map text) (sym (side_told room known c.args.link))
