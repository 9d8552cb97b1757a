use Rattle.std.proofs.Common.{◌∙◌, sym}
use Rattle.irc_names.specs.Fold.{key}
use Rattle.irc_channels.specs.Channels.{respelled}
use Rattle.irc_room.proofs.Keeping.{either_way, absent_stays}
use Rattle.irc_effects.specs.Lemmas.Rows.{alter_same}
use Rattle.irc_room.proofs.indexed_channels.respell.Goals as goal

pub returns : goal.returns
returns c =
    either_way c.respell.result _ _ _ c.respell.ensures.ok c.respell.ensures.refused
    (λ fault is. alter_same (key c.args.channel.now) _ _
    (absent_stays (respelled c.args.channel.now) _ fault (sym is ∙ c.respell.ensures.fault)))
