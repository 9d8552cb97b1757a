use Rattle.std.proofs.Common.{◌∙◌, sym}
use Rattle.irc_names.specs.Fold.{key}
use Rattle.irc_channels.specs.Channels.{with_topic}
use Rattle.irc_room.proofs.Keeping.{either_way, absent_stays}
use Rattle.irc_effects.specs.Lemmas.Rows.{alter_same}
use Rattle.irc_room.proofs.indexed_channels.set_topic.Goals as goal

pub returns : goal.returns
returns c =
    either_way c.set_topic.result _ _ _ c.set_topic.ensures.ok c.set_topic.ensures.refused
    (λ fault is. alter_same (key c.args.channel.now) _ _
    (absent_stays (with_topic c.args.topic.now) _ fault (sym is ∙ c.set_topic.ensures.fault)))
