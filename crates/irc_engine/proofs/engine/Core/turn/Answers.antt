use Rattle.irc_engine.proofs.KnowingLaws.{at_one_between, none_to_tell, settled_again}
use Rattle.irc_engine.proofs.RunLaws.{on_both}
use Rattle.irc_engine.proofs.TurnLaws.{does_all}
use Rattle.irc_engine.proofs.engine.Core.turn.Goals as goal

pub answer-requires-clause-at_one : goal.answer-requires-clause-at_one
answer-requires-clause-at_one g c = at_one_between _ _ _ c.requires

pub answer-requires-clause-told : goal.answer-requires-clause-told
answer-requires-clause-told g c = none_to_tell _ _ _ c.requires

pub returns-clause-settled : goal.returns-clause-settled
returns-clause-settled g c =
    on_both c.flush.result _ _ _
    (λ one told. settled_again _ _ _
    (told (c.in_ok-do_due.ensures.told
    (c.in_ok-answer.ensures.told (none_to_tell _ _ _ c.requires)))) one)
    c.flush.ensures.at_one c.flush.ensures.told

pub returns-clause-done : goal.returns-clause-done
returns-clause-done g c =
    does_all _ _ _ _ c.args.self.now c.answer.new.self c.do_due.new.self c.flush.new.self _ _
    c.flush.result
    c.in_ok-answer.ensures.done c.in_ok-answer.ensures.told c.in_ok-answer.ensures.notes
    c.in_ok-do_due.ensures.done c.in_ok-do_due.ensures.told c.in_ok-do_due.ensures.marks
    c.flush.ensures.done
    c.flush.ensures.told c.flush.ensures.in_order
