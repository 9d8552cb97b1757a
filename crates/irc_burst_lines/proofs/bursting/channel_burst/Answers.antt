use Rattle.std.proofs.Common.{◌++◌, ◌∙◌, ap, map, sym}
use Rattle.std.specs.Option.{option_copied}
use Rattle.irc_line.specs.Messages.{text}
use Rattle.irc_burst_lines.specs.Loops.Telling.{lines_now, told_if}
use Rattle.irc_burst_lines.proofs.SideTold.{channel_is_told}
use Rattle.irc_burst_lines.proofs.bursting.channel_burst.Goals as goal

pub returns : goal.returns
returns c =
    let room = c.args.room.now.room in
    let known = c.args.routes.now in
    let channel_told = told_if known c.args.link room in
    c.in_ok-tell_if.ensures
    ∙ ap (λ lines. lines_now lines ++ map text (channel_told (option_copied c.channel.result)))
    c.new-lines.ensures.items
    ∙ ap (λ channel. map text (channel_told channel)) c.channel.ensures
    ∙ ap (map text) (sym (channel_is_told room known c.args.link c.args.name.now))
