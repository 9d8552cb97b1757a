use Rattle.std.proofs.Common.{List, [], ◌∷◌, map, take, subst, sym}
use Rattle.std.specs.Borrow.{Bor}
use Rattle.std.specs.List.{filter_map}
use Rattle.irc_tables.specs.declared.table.Row.{Row}
use Rattle.irc_channels.specs.declared.channel.Channel.{Channel}
use Rattle.irc_numerics.specs.declared.replies.OnChannel.{OnChannel}
use Rattle.irc_numerics.specs.Limits.{max_whois_channels}
use Rattle.irc_acts.specs.Loops.FilledLines.{Came}
use Rattle.irc_acts.specs.Lemmas.CameLines.{more_came, rows_more}
use Rattle.irc_queries.specs.Whois.{channels_line, place_in}
use Rattle.irc_queries.proofs.whois.add_channels.Goals as goal

pub loop-row-preserved : goal.loop-row-preserved
loop-row-preserved c =
    let give = place_in c.args.me.now c.args.user.now in
    let line = channels_line c.args.user.now in
    let rows = c.args.rows.now in
    let i = c.loop-row.row-index in
    let value = λ (row : Bor (Row Channel)). row.now.value in
    subst (λ (places : List OnChannel). Came max_whois_channels line c.args.steps.now.items
    c.args.held.now.items places c.add_channel.new.steps.items c.add_channel.new.held.items)
    (sym (rows_more give value rows i c.row-item.result c.loop-row-test.true c.row-item.is))
    (more_came max_whois_channels line c.args.steps.now.items c.loop-row.steps.items
    c.add_channel.new.steps.items c.args.held.now.items c.loop-row.held.items
    c.add_channel.new.held.items
    (filter_map give (map value (take i rows)))
    (filter_map give (value c.row-item.result ∷ [])) c.loop-row.invariant
    (subst (λ (channel : Channel). Came max_whois_channels line c.loop-row.steps.items
    c.loop-row.held.items (filter_map give (channel ∷ [])) c.add_channel.new.steps.items
    c.add_channel.new.held.items)
    c.channel.ensures c.in_ok-add_channel.ensures))
