use Rattle.std.proofs.Common.{◌∙◌, sym}
use Rattle.irc_names.specs.Fold.{key}
use Rattle.irc_room.proofs.Keeping.{either_way, left_stays}
use Rattle.irc_effects.specs.Lemmas.Rows.{alter_same}
use Rattle.irc_room.proofs.indexed_channels.leave.Goals as goal

pub returns : goal.returns
returns c =
    either_way c.part.result _ _ _ c.part.ensures.ok c.part.ensures.refused
    (λ fault is. alter_same (key c.args.channel.now) _ _
    (left_stays (key c.args.nick.now) _ fault (sym is ∙ c.part.ensures.fault)))
