use Rattle.std.proofs.Common.{◌∙◌, ap}
use Rattle.irc_effects.specs.Applying.{ServerRoom}
use Rattle.irc_effects.specs.Readers.{names_of}
use Rattle.irc_room.specs.declared.room.Room.TheInside.{Inside}
use Rattle.irc_room.proofs.NamesRead.{folds_read}
use Rattle.irc_room.proofs.room.Room.names_of.Goals as goal

pub returns : goal.returns
returns c =
    folds_read c.names_of.result.now _ c.names_of.ensures
    ∙ ap (λ (inside : Inside). names_of inside.tables c.args.nick.now) c.self-inside.view_is
    ∙ ap (λ (kept : ServerRoom). names_of kept.room c.args.nick.now) c.self.view_is
