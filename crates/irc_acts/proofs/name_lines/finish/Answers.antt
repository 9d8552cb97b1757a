use Rattle.std.proofs.Common.{◌≤◌, List, [], ◌∷◌, ◌++◌, length, eqb, sym, ◌∙◌, ap, subst}
use Rattle.std.proofs.lemmas.Bool.{eqb-true}
use Rattle.irc_tables.specs.Lemmas.RowsAsTable.{ok_also}
use Rattle.irc_numerics.specs.Limits.{max_names}
use Rattle.irc_numerics.specs.declared.replies.Listed.{Listed}
use Rattle.irc_acts.specs.Names.{name_line}
use Rattle.irc_acts.specs.Lemmas.CameLines.{nothing_held, last_held}
use Rattle.irc_acts.proofs.name_lines.finish.Goals as goal

pub returns-then-is_empty : goal.returns-then-is_empty
returns-then-is_empty c =
    nothing_held max_names (name_line c.args.channel.now) c.args.steps.now.items c.args.held.items
    (ap length (sym c.as_slice.ensures.value)
    ∙ eqb-true _ _ (sym c.is_empty.ensures ∙ c.if-is_empty.true))

pub returns : goal.returns
returns c =
    ok_also c.put.result (λ sent.
    sent
    ∙ ap (λ a. c.args.steps.now.items ++ a ∷ []) c.in_ok-act.ensures
    ∙ last_held max_names (name_line c.args.channel.now) c.args.steps.now.items c.args.held.items
    (ap (λ (xs : List Listed). eqb (length xs) 0) (sym c.as_slice.ensures.value)
    ∙ sym c.is_empty.ensures ∙ c.if-is_empty.false)
    (subst (λ (xs : List Listed). length xs ≤ max_names) c.as_slice.ensures.value
    c.as_slice.ensures.fits))
    c.put.ensures
