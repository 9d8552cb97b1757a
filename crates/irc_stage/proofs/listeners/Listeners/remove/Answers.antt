use Rattle.irc_names.specs.Fold.{key}
use Rattle.irc_stage.proofs.ListsKept.{gone_sets}
use Rattle.irc_stage.proofs.listeners.Listeners.remove.Goals as goal

pub returns : goal.returns
returns c = gone_sets (key c.args.channel.now)
    (key c.args.nick.now) c.args.self.now.lists c.change_at.new.self c.change_at.ensures
