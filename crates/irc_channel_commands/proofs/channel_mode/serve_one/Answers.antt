use Rattle.std.specs.Option.{option_copied}
use Rattle.irc_channel_commands.proofs.ChangesFollowed.{follows_taken}
use Rattle.irc_channel_commands.proofs.channel_mode.serve_one.Goals as goal

pub returns-in-Change-clause-follows : goal.returns-in-Change-clause-follows
returns-in-Change-clause-follows c =
    follows_taken c.args.room.now.room.users c.args.channel.now c.args.kept.now.changes.items
    c.take.new.kept.changes.items c.args.kept.now.settings c.take.new.kept.settings
    c.in-Change.asked.plus c.in-Change.asked.letter (option_copied c.in-Change.asked.word)
    c.judge.result c.take.result c.requires c.judge.ensures
    c.take.ensures.changes c.take.ensures.settings
