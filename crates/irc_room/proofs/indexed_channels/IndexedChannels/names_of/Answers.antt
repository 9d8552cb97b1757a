use Rattle.std.proofs.Common.{◌∙◌, ap}
use Rattle.irc_names.specs.Fold.{key}
use Rattle.irc_room.specs.Indexes.{own_names}
use Rattle.irc_room.specs.OwnNameLaws.{names_told}
use Rattle.irc_room.proofs.indexed_channels.IndexedChannels.names_of.Goals as goal

pub returns : goal.returns
returns c =
    c.names.ensures
    ∙ names_told
    (key c.args.nick.now) c.self.inside.rows c.self.inside.joined.rows c.self.invariant.joined
    ∙ ap (own_names (key c.args.nick.now)) c.self.view_is
