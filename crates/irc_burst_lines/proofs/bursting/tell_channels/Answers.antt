use Rattle.std.proofs.Common.{subst, OnOk}
use Rattle.irc_burst_lines.specs.Loops.Telling.{Writes, channel_told}
use Rattle.irc_burst_lines.proofs.Told.{rows_told}
use Rattle.irc_burst_lines.proofs.bursting.tell_channels.Goals as goal

pub returns : goal.returns
returns c =
    let room = c.args.room.now.room in
    subst (λ parts. OnOk c.tell_each_channel.result
    (Writes parts c.args.lines.now.items c.tell_each_channel.new.lines.items))
    (rows_told (channel_told c.args.routes.now c.args.link room.users) c.channels.result.now
    room.channels c.channels.ensures) c.tell_each_channel.ensures
