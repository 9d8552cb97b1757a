use Rattle.irc_channel_commands.proofs.ChangesFollowed.{follows_none}
use Rattle.irc_channel_commands.proofs.channel_mode.serve.Goals as goal

pub serve_each-requires-clause-follows : goal.serve_each-requires-clause-follows
serve_each-requires-clause-follows c =
    follows_none c.args.channel.now c.none-kept.result.changes.items c.none-kept.result.settings
    c.none-kept.ensures.changes c.none-kept.ensures.settings
    c.know_bans_rise.ensures
