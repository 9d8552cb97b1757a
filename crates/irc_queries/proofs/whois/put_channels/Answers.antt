use Rattle.std.proofs.Common.{List, ◌++◌, ◌∙◌, map, ap}
use Rattle.std.specs.Borrow.{Bor}
use Rattle.std.specs.List.{filter_map}
use Rattle.irc_tables.specs.declared.table.Row.{Row}
use Rattle.irc_tables.specs.Lemmas.RowsAsTable.{ok_also}
use Rattle.irc_channels.specs.declared.channel.Channel.{Channel}
use Rattle.irc_numerics.specs.Limits.{max_whois_channels}
use Rattle.irc_acts.specs.Loops.FilledLines.{lines_of}
use Rattle.irc_acts.specs.Lemmas.CameLines.{all_came}
use Rattle.irc_queries.specs.Whois.{channels_line, place_in}
use Rattle.irc_queries.proofs.whois.put_channels.Goals as goal

pub returns : goal.returns
returns c =
    let user = c.args.user.now in
    let line = channels_line user in
    let before = c.args.steps.now.items in
    let give = place_in c.args.context.now.me.now user in
    let value = λ (row : Bor (Row Channel)). row.now.value in
    ok_also c.finish.result (λ sent.
    all_came max_whois_channels line before c.add_channels.new.steps.items c.finish.new.steps.items
    c.new-held.result.items (filter_map give (map value c.as_slice.result.now))
    c.add_channels.new.held.items c.new-held.ensures c.in_ok-add_channels.ensures sent
    ∙ ap (λ (rows : List (Bor (Row Channel))). before ++ lines_of max_whois_channels line
    (filter_map give (map value rows))) c.as_slice.ensures.value
    ∙ ap (λ (channels : List Channel). before ++ lines_of max_whois_channels line
    (filter_map give channels)) c.in_ok-rows.ensures)
    c.finish.ensures
