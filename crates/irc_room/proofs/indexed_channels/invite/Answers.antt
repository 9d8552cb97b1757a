use Rattle.std.proofs.Common.{◌∙◌, sym}
use Rattle.irc_names.specs.Fold.{key}
use Rattle.irc_names.specs.Tables.{row}
use Rattle.irc_channels.specs.Channels.{invited_too}
use Rattle.irc_room.proofs.Keeping.{owed_stays, none_is_memory}
use Rattle.irc_effects.specs.Lemmas.Rows.{alter_same}
use Rattle.irc_room.proofs.indexed_channels.invite.Goals as goal

pub returns-in-Err-NoSuchChannel-clause-ok : goal.returns-in-Err-NoSuchChannel-clause-ok
returns-in-Err-NoSuchChannel-clause-ok c =
    c.in-Err-NoSuchChannel.ensures.refused
    ∙ sym (alter_same (key c.args.channel.now) _ _ (owed_stays
    (invited_too (key c.args.nick.now)) (row c.args.channels.now (key c.args.channel.now))
    c.in-Err-NoSuchChannel.field-0 c.in-Err-NoSuchChannel.ensures.fault
    (λ memory. none_is_memory (sym c.in-Err-NoSuchChannel.field-0-is ∙ memory))))
