use Rattle.std.proofs.Common.{refl}
use Rattle.irc_names.specs.Masks.{Matches}
use Rattle.irc_names.specs.MaskLaws.{matches_true, matches_false}
use Rattle.irc_names.proofs.MaskSteps.{answer_done, answer_differs}
use Rattle.irc_names.proofs.matching.mask_matches.Goals as goal

pub returns-in-Done : goal.returns-in-Done
returns-in-Done c =
    let all : Matches c.args.mask.now c.args.text.now =
    answer_done c.loop-reached.reached c.in-Done.is c.loop-reached.invariant in
    record { told = (λ _. all, λ _. refl); value = matches_true _ _ all }

pub returns-in_default-matches : goal.returns-in_default-matches
returns-in_default-matches c =
    let differs : ¬ (Matches c.args.mask.now c.args.text.now) =
    answer_differs c.loop-reached.reached c.in_default.not-Star c.in_default-matches.not-Done
    c.loop-reached.invariant in
    record { told = (λ said. cc, λ all. absurd (differs all)); value = matches_false _ _ differs }
