use Rattle.std.proofs.Common.{◌∙◌, ap}
use Rattle.irc_names.specs.Fold.{key}
use Rattle.irc_channels.specs.Channels.{new_channel, joined}
use Rattle.irc_channels.proofs.ChangesParted.{joined_there, joined_new}
use Rattle.irc_channels.proofs.channels.Channels.join.Goals as goal

pub returns-then-has-clause-ok : goal.returns-then-has-clause-ok
returns-then-has-clause-ok c =
    joined_there c.args.channel.now _ (joined (key c.args.nick.now) c.args.op)
    (new_channel c.args.channel.now) c.self.inside.rows c.args.self.now _ _
    c.has.ensures c.if-has.true c.as_bytes.ensures.value c.self.view_is c.in_ok-try_at.ensures.ok

pub returns-clause-ok : goal.returns-clause-ok
returns-clause-ok c =
    joined_new c.args.channel.now _ (joined (key c.args.nick.now) c.args.op)
    (new_channel c.args.channel.now) _ c.self.inside.rows c.args.self.now _ _
    c.has.ensures c.if-has.false c.as_bytes-2.ensures.value c.self.view_is
    (c.in_ok-stored.ensures ∙ c.in_ok-join.ensures.ok
    ∙ ap (joined (key c.args.nick.now) c.args.op) c.new-made.ensures) c.in_ok-insert.ensures.ok
