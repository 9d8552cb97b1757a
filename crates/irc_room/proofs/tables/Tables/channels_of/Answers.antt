use Rattle.std.proofs.Common.{◌∙◌, ap, filter}
use Rattle.std.specs.FinMap.{entries}
use Rattle.irc_names.specs.Fold.{key}
use Rattle.irc_channels.specs.Channels.{has_member}
use Rattle.irc_effects.specs.Room.{Room}
use Rattle.irc_room.specs.Indexes.{entries_under}
use Rattle.irc_effects.specs.Lemmas.Rows.{found_also}
use Rattle.irc_room.specs.OwnNameLaws.{own_found}
use Rattle.irc_room.proofs.tables.Tables.channels_of.Goals as goal

pub returns : goal.returns
returns c =
    found_also c.with_names.result
    (λ found is.
    is
    ∙ ap (entries_under c.self.inside.channels) c.names_of.ensures
    ∙ own_found (key c.args.nick.now) c.self.inside.channels
    ∙ ap (λ (room : Room). filter (λ e. has_member (key c.args.nick.now) e.1)
    (entries room.channels)) c.self.view_is)
    c.with_names.ensures
