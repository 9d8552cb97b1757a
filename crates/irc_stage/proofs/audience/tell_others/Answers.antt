use Rattle.std.proofs.Common.{ℕ, map, not, sym, ◌∙◌}
use Rattle.irc_batch.specs.Batches.{is_number}
use Rattle.irc_tables.specs.Lemmas.RowsAsTable.{ok_also}
use Rattle.irc_stage.proofs.Hearing.{any_mapped, told_by, told_none}
use Rattle.irc_stage.proofs.audience.tell_others.Goals as goal

pub returns-then-not-has_other : goal.returns-then-not-has_other
returns-then-not-has_other c =
    let test = λ (conn : ℕ). not (is_number c.args.one conn) in
    told_none c.args.line.now.items test (map (λ row. row.value) c.args.rows.now) c.args.out.now
    (sym (c.has_other.ensures ∙ any_mapped test (λ row. row.value) c.args.rows.now)
    ∙ c.if-not-has_other.true)

pub returns : goal.returns
returns c =
    let test = λ (conn : ℕ). not (is_number c.args.one conn) in
    ok_also c.send_to_others.result
    (told_by c.args.line.now.items c.deref.result.now c.args.one
    (map (λ row. row.value) c.args.rows.now) c.args.out.now c.hold.new.self
    c.send_to_others.new.out c.in_ok-hold.ensures.ok c.deref.ensures.0
    (sym (c.has_other.ensures ∙ any_mapped test (λ row. row.value) c.args.rows.now)
    ∙ c.if-not-has_other.false))
    c.send_to_others.ensures
