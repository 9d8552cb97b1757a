use Rattle.std.proofs.Common.{◌∙◌, sym}
use Rattle.irc_names.specs.Fold.{key}
use Rattle.irc_names.specs.Tables.{row}
use Rattle.irc_link_reader.proofs.FarMembers.{far-there}
use Rattle.irc_link_reader.proofs.arrival.has_far.Goals as goal

pub returns-then-has_channel : goal.returns-then-has_channel
returns-then-has_channel c =
    c.is_any_far.ensures
    ∙ far-there c.args.at.room.now.room c.args.at.routes.now c.args.at.link
    (row c.args.at.room.now.room.channels (key c.args.name.now)) c.members_of.result.now
    c.members_of.ensures (sym c.has_channel.ensures ∙ c.if-has_channel.true)
