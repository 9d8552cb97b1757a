use Rattle.std.proofs.Common.{ℕ, List, map, ap, ◌∙◌}
use Rattle.irc_tables.specs.Lemmas.RowsAsTable.{ok_also}
use Rattle.irc_stage.specs.Loops.Hearing.{others_of, told_to}
use Rattle.irc_stage.proofs.Conns.{values_of}
use Rattle.irc_stage.proofs.listeners.Listeners.tell.Goals as goal

pub returns : goal.returns
returns c =
    ok_also c.tell_others.result
    (λ is. is
    ∙ ap (λ conns. told_to c.args.line.now.items (others_of c.args.one conns) c.args.out.now)
    (values_of c.of.result.now ∙ ap (map (λ (e : List ℕ × ℕ). e.1)) c.of.ensures))
    c.tell_others.ensures
