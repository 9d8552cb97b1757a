use Rattle.std.proofs.Common.{◌≡◌, ◌≢◌, [], sym, arith}
use Rattle.std.proofs.lemmas.Grind.{common_steps}
use Rattle.irc_names.proofs.MaskSteps.{rests_on_star, first_at_star, follows_one, matches_at_end}
use Rattle.irc_names.proofs.MaskSteps.{differs_after_end}
use Rattle.irc_names.proofs.matching.follow.Goals as goal

pub returns-in-Run-clause-told : goal.returns-in-Run-clause-told
returns-in-Run-clause-told c =
    rests_on_star c.in-Some.ensures.value c.in-Run.is c.loop-part.invariant

pub returns-in-Run-clause-first : goal.returns-in-Run-clause-first
returns-in-Run-clause-first c =
    first_at_star c.in-Some.ensures.value c.in-Run.is c.loop-part.invariant

pub loop-part-preserved : goal.loop-part-preserved
loop-part-preserved c =
    follows_one c.in-Some.ensures.value c.in_default-part.not-Run
    c.in-Some-split_first.ensures.cases.0 (sym c.if-not-accepts.ensures)
    c.in-Some.ensures.shorter c.loop-part.invariant

pub returns-then-is_empty-clause-told : goal.returns-then-is_empty-clause-told
returns-then-is_empty-clause-told c =
    let none : c.loop-part.text_left.now ≡ [] = grind (arith, common_steps) in
    matches_at_end c.in_default.ensures.value none c.loop-part.invariant

pub returns-else-is_empty-clause-told : goal.returns-else-is_empty-clause-told
returns-else-is_empty-clause-told c =
    let some : c.loop-part.text_left.now ≢ [] = λ none. grind (arith, common_steps) in
    differs_after_end c.in_default.ensures.value some c.loop-part.invariant
