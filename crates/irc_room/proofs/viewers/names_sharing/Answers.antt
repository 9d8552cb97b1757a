use Rattle.std.proofs.Common.{◌∙◌, ap}
use Rattle.std.specs.List.{list_any}
use Rattle.std.specs.FinMap.{values}
use Rattle.irc_names.specs.Fold.{key}
use Rattle.irc_room.specs.Indexes.{joins_both}
use Rattle.irc_effects.specs.Room.{Room}
use Rattle.irc_room.proofs.WhoSees.{sharers_among}
use Rattle.irc_room.proofs.viewers.names_sharing.Goals as goal

pub returns : goal.returns
returns c = λ fold.
    sharers_among _ _ c.new-names.ensures c.args.nick.now c.tables.inside.channels
    c.in_ok-put_shared.ensures fold
    ∙ ap (λ (room : Room). list_any (joins_both (key c.args.nick.now) fold)
    (values room.channels)) c.tables.view_is
