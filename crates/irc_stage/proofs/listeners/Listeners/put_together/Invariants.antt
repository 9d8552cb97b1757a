use Rattle.std.proofs.Common.{◌≡◌, [], drop, map}
use Rattle.irc_names.specs.Fold.{key}
use Rattle.irc_stage.specs.Loops.Merging.{entries_now, with_lists}
use Rattle.irc_stage.proofs.listeners.Listeners.put_together.Given as goal

-- the lists behind, put together with what there is, are all of them
abbrev pub invariant-loop-row : goal.invariant-loop-row
invariant-loop-row l =
    with_lists l.self.lists (map (λ row. key row.name.items) (drop l.row-index l.names))
    (entries_now l.found.items)
    ≡ with_lists l.self.lists (map (λ row. key row.name.items) l.names) []
