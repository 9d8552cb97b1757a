use Rattle.irc_tables.specs.Lemmas.RowsAsTable.{ok_also}
use Rattle.irc_stage.proofs.ListsKept.{at_effect, joined_if, kicked_so, parted_so, quit_so}
use Rattle.irc_stage.proofs.listeners.Listeners.follow.Goals as goal

pub returns-in-Join : goal.returns-in-Join
returns-in-Join c =
    ok_also c.join.result
    (λ sets. at_effect _ c.args.room.now.room c.args.clients.now.by_nick c.args.effect.now _
    c.in-Join.is
    (joined_if c.args.room.now.room c.args.clients.now.by_nick c.in-Join.nick c.args.self.now.lists
    c.join.new.self.lists c.requires.so c.in-Join.channel
    c.in-Join.op sets))
    c.join.ensures

pub returns-in-Part : goal.returns-in-Part
returns-in-Part c =
    at_effect _ c.args.room.now.room c.args.clients.now.by_nick c.args.effect.now _ c.in-Part.is
    (parted_so c.args.room.now.room c.args.clients.now.by_nick c.in-Part.nick c.args.self.now.lists
    c.leave.new.self.lists c.requires.so c.in-Part.channel
    c.in-Part.text c.leave.ensures)

pub returns-in-Kick : goal.returns-in-Kick
returns-in-Kick c =
    at_effect _ c.args.room.now.room c.args.clients.now.by_nick c.args.effect.now _ c.in-Kick.is
    (kicked_so c.args.room.now.room c.args.clients.now.by_nick c.in-Kick.nick c.args.self.now.lists
    c.leave-in-Kick.new.self.lists c.requires.so c.in-Kick.by
    c.in-Kick.channel c.in-Kick.text c.leave-in-Kick.ensures)

pub returns-in-Quit : goal.returns-in-Quit
returns-in-Quit c =
    at_effect _ c.args.room.now.room c.args.clients.now.by_nick c.args.effect.now _ c.in-Quit.is
    (quit_so c.args.room.now.room c.args.clients.now.by_nick c.in-Quit.nick c.args.self.now.lists
    c.quit.new.self.lists c.requires.so c.in-Quit.text c.quit.ensures)
