use Rattle.std.proofs.Common.{true, sym, ◌∙◌}
use Rattle.irc_names.specs.Fold.{key}
use Rattle.irc_stage.proofs.ListsKept.{none_of, nothing_kept, own_gone}
use Rattle.irc_stage.proofs.listeners.Listeners.quit.Goals as goal

pub returns-then-is_some : goal.returns-then-is_some
returns-then-is_some c =
    own_gone (key c.args.nick.now) c.args.self.now.lists c.leave_all.new.self.lists
    c.args.room.now.room c.args.clients.now.by_nick c.requires c.leave_all.ensures

pub returns-else-is_some : goal.returns-else-is_some
returns-else-is_some c =
    nothing_kept (λ name. true) (key c.args.nick.now) c.args.self.now.lists c.args.room.now.room
    c.args.clients.now.by_nick c.requires
    (sym c.number_of.ensures ∙ none_of c.number_of.result c.if-is_some.ensures)
