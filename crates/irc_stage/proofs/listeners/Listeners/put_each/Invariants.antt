use Rattle.std.proofs.Common.{Some, map, take}
use Rattle.irc_names.specs.Fold.{key}
use Rattle.irc_stage.specs.Loops.Listening.{is_named, Sets}
use Rattle.irc_stage.proofs.listeners.Listeners.put_each.Given as goal

abbrev pub invariant-loop-row : goal.invariant-loop-row
invariant-loop-row l =
    Sets (is_named (map (λ row. key row.name.items) (take l.row-index l.names))) (key l.nick)
    (Some l.conn)
    l.initial.self.lists l.self.lists
