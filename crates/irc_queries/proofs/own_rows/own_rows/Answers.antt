use Rattle.std.proofs.Common.{ℕ, List, filter, ◌∙◌, ap}
use Rattle.std.specs.FinMap.{entries}
use Rattle.irc_names.specs.Fold.{key}
use Rattle.irc_channels.specs.Channels.{has_member}
use Rattle.irc_acts.specs.OwnRows.{own_of_rows}
use Rattle.irc_queries.proofs.own_rows.own_rows.Goals as goal

pub returns : goal.returns
returns c =
    let room = c.args.room.now.room in
    own_of_rows room c.args.user.now c.in_ok-rows.rows.items
    (c.in_ok-rows.ensures ∙ ap (λ (nick : List ℕ). filter (λ e. has_member (key nick) e.1)
    (entries room.channels)) c.as_bytes.ensures.value)
