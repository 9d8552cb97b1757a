use Rattle.std.proofs.Common.{sym, ◌∙◌}
use Rattle.std.specs.Borrow.{Bor}
use Rattle.irc_names.specs.Lemmas.PlainFacts.{list_any-map}
use Rattle.irc_names.specs.Fold.{key}
use Rattle.irc_tables.specs.declared.table.Row.{Row}
use Rattle.irc_channels.specs.declared.channel.Channel.{Channel}
use Rattle.irc_channels.specs.Channels.{has_member}
use Rattle.irc_acts.proofs.standing.is_in_one.Goals as goal

pub returns : goal.returns
returns c = c.is_in_row.ensures ∙ sym (list_any-map (has_member (key c.args.user.now.nick))
    (λ (row : Bor (Row Channel)). row.now.value) c.args.channels.now)
