use Rattle.std.proofs.Common.{subst}
use Rattle.std.proofs.lemmas.List.{take_rest}
use Rattle.irc_turns.specs.Fronts.{EndsLines}
use Rattle.irc_turns.proofs.FrontSteps.{front_is}
use Rattle.irc_turns.proofs.rest.front_of.Goals as goal

pub returns : goal.returns
returns c =
    front_is c.pieces_complete_the_same.ensures.pieces c.args.lines c.args.bytes.now _ _ _
    (subst (λ n. EndsLines n c.args.bytes.now c.ended_at-ended.result) c.max.ensures
    c.ended_at-ended.ensures)
    (take_rest c.args.bytes.now c.ended_at-ended.result) c.ends_in_front.ensures.ends
    c.ends_in_front.ensures.within
