use Rattle.irc_stage.proofs.ListsKept.{unmoved_so}
use Rattle.irc_stage.proofs.listeners.know_unmoved.Goals as goal

pub returns : goal.returns
returns c =
    unmoved_so c.args.listeners.now.lists c.args.room.now.room c.args.clients.now.by_nick
    c.args.effect.now c.requires.unmoved c.requires.so
