use Rattle.std.proofs.Common.{map, take}
use Rattle.std.specs.List.{filter_map}
use Rattle.irc_numerics.specs.Limits.{max_whois_channels}
use Rattle.irc_acts.specs.Loops.FilledLines.{Came}
use Rattle.irc_queries.specs.Whois.{channels_line, place_in}
use Rattle.irc_queries.proofs.whois.add_channels.Given as goal

abbrev pub invariant-loop-row : goal.invariant-loop-row
invariant-loop-row l =
    Came max_whois_channels (channels_line l.user) l.fn.steps.items l.fn.held.items
    (filter_map (place_in l.me l.user) (map (λ row. row.now.value) (take l.row-index l.rows)))
    l.steps.items l.held.items
