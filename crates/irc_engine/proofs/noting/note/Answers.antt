use Rattle.std.proofs.Common.{sym, subst}
use Rattle.irc_journal.specs.Claims.{claimed_in}
use Rattle.irc_journal.specs.Signs.{claims, opens, meets, Enters, EntersAll}
use Rattle.irc_engine.specs.Noting.{event_signs}
use Rattle.irc_engine.proofs.NotingLaws.{enters_one, enters_two}
use Rattle.irc_engine.proofs.RunLaws.{on_ok}
use Rattle.irc_engine.proofs.noting.note.Goals as goal

pub returns-in-LinkUp : goal.returns-in-LinkUp
returns-in-LinkUp c =
    on_ok c.open.result _ _
    (λ enters. subst (λ event. EntersAll (event_signs event c.args.server.now) c.args.journal.now
    c.open.new.self) (sym c.in-LinkUp.is)
    (enters_one _ _ _ _ (subst (λ called. Enters c.in-LinkUp.link
    (opens called) c.args.journal.now c.open.new.self) c.as_ref.ensures.value enters)))
    c.open.ensures

pub returns-in-LinkLine : goal.returns-in-LinkLine
returns-in-LinkLine c =
    on_ok c.meet.result _ _
    (λ enters. subst (λ event. EntersAll (event_signs event c.args.server.now) c.args.journal.now
    c.meet.new.self) (sym c.in-LinkLine.is)
    (enters_two _ _ _ _ _ _ (subst (λ line. Enters c.in-LinkLine.link
    (claims (claimed_in line)) c.args.journal.now c.hear.new.self) c.as_slice.ensures.value
    c.hear.ensures) (subst (λ far. Enters c.in-LinkLine.link
    (meets far) c.hear.new.self c.meet.new.self) c.far_of.ensures enters)))
    c.meet.ensures

pub returns-in-LinkDown : goal.returns-in-LinkDown
returns-in-LinkDown c =
    on_ok c.lose.result _ _
    (λ enters. subst (λ event. EntersAll (event_signs event c.args.server.now) c.args.journal.now
    c.lose.new.self) (sym c.in-LinkDown.is)
    (enters_one _ _ _ _ enters))
    c.lose.ensures
