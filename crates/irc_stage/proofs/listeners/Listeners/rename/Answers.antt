use Rattle.std.proofs.Common.{sym, ◌∙◌}
use Rattle.irc_names.specs.Fold.{key}
use Rattle.irc_tables.specs.Lemmas.RowsAsTable.{ok_also}
use Rattle.irc_stage.proofs.ListsKept.{client_renamed, other_renamed, own_gone}
use Rattle.irc_stage.proofs.listeners.Listeners.rename.Goals as goal

pub returns-in_default : goal.returns-in_default
returns-in_default c =
    let none = sym c.number_of.ensures ∙ c.in_default.is in
    other_renamed c.args.room.now.room c.args.clients.now.by_nick c.args.old.now c.args.new.now
    c.own.ensures.well_formed c.requires.possible
    c.args.self.now.lists c.requires.so none (c.requires.apart none)

pub returns : goal.returns
returns c =
    ok_also c.enter_all.result
    (client_renamed c.args.room.now.room c.args.clients.now.by_nick c.args.old.now c.args.new.now
    c.own.ensures.well_formed c.requires.possible
    c.args.self.now.lists c.requires.so c.in-Some.conn (sym c.number_of.ensures
    ∙ c.in-Some.is) c.leave_all.new.self.lists c.enter_all.new.self.lists
    (own_gone (key c.args.old.now) c.args.self.now.lists c.leave_all.new.self.lists
    c.args.room.now.room c.args.clients.now.by_nick c.requires.so
    c.leave_all.ensures))
    c.enter_all.ensures
