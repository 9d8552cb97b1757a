use Rattle.std.proofs.Common.{ℕ, Bool, List, length, map, ◌∙◌, ap}
use Rattle.std.specs.List.{filter_map}
use Rattle.irc_names.specs.Fold.{key}
use Rattle.irc_tables.specs.RowViews.{row_entry}
use Rattle.irc_channels.specs.declared.flags.Flags.{Flags}
use Rattle.irc_channels.specs.Channels.{has_member}
use Rattle.irc_acts.specs.Names.{listed}
use Rattle.irc_acts.specs.Loops.NameLines.{is_shown}
use Rattle.irc_queries.proofs.NamedCount.{count_found}
use Rattle.irc_queries.proofs.list.named_count.Goals as goal

pub returns : goal.returns
returns c =
    let users = c.args.context.now.room.now.room.users in
    let rows = map row_entry c.as_slice.result.now in
    c.named_among.ensures
    ∙ count_found (listed users (is_shown c.has_member-all.result)) row_entry c.as_slice.result.now
    ∙ ap (λ (all : Bool). length (filter_map (listed users (is_shown all)) rows))
    c.has_member-all.ensures
    ∙ ap (λ (es : List (List ℕ × Flags)). length (filter_map (listed users (is_shown (has_member
    (key c.args.context.now.me.now.nick) c.args.channel.now))) es)) c.as_slice.ensures
