use Rattle.std.proofs.Common.{Some, sym, ◌∙◌, ap, is_some, subst}
use Rattle.std.specs.BTreeMap.{BTreeMap}
use Rattle.std.specs.FinMap.{insert}
use Rattle.irc_stage.specs.Ends.{End, Ends}
use Rattle.irc_stage.specs.Ways.{AreEnds, IsMetEnd}
use Rattle.irc_stage.specs.Lemmas.Numbers.{put-numbered}
use Rattle.irc_stage.specs.Loops.Parts.{numbered, view_of}
use Rattle.irc_stage.proofs.LinkEnds.{password_put, no_password, end_missing, end_there, put_met}
use Rattle.irc_stage.proofs.LinkEnds.{serves_with_ends}
use Rattle.irc_stage.proofs.parts.ServerParts.take_password.Goals as goal

pub returns-in-Some-clause-ok : goal.returns-in-Some-clause-ok
returns-in-Some-clause-ok c =
    let old = c.args.self.now.ends in
    password_put (view_of c.args.self.now) c.args.link c.args.password c.in-Some.end.now
    (numbered (c.get_mut.follows.lender c.take_password.new.self))
    (end_there old c.args.link c.in-Some.end.now (sym c.in-Some.ensures.value))
    (put-numbered old (c.get_mut.follows.lender c.take_password.new.self) c.args.link
    c.take_password.new.self ((c.get_mut.follows.holds c.take_password.new.self).3
    (ap is_some (sym c.in-Some.ensures.value)))
    ∙ ap (insert (numbered old) c.args.link) c.take_password.ensures)

pub returns-in-Some-clause-serving : goal.returns-in-Some-clause-serving
returns-in-Some-clause-serving c =
    let old = c.args.self.now.ends in
    serves_with_ends c.args.self.now c.requires.serving
    (c.get_mut.follows.lender c.take_password.new.self)
    (subst (λ (es : Ends). AreEnds es c.args.self.now.routes)
    (sym (put-numbered old (c.get_mut.follows.lender c.take_password.new.self) c.args.link
    c.take_password.new.self ((c.get_mut.follows.holds c.take_password.new.self).3
    (ap is_some (sym c.in-Some.ensures.value)))
    ∙ ap (insert (numbered old) c.args.link) c.take_password.ensures))
    (put_met (numbered old) c.args.self.now.routes c.args.link (record c.in-Some.end.now
    { password = Some c.args.password }) c.requires.serving.ready.met
    (λ counted. subst IsMetEnd
    (end_there old c.args.link c.in-Some.end.now (sym c.in-Some.ensures.value)) counted)))

pub returns-in_default-clause-ok : goal.returns-in_default-clause-ok
returns-in_default-clause-ok c =
    ap (λ (ends : BTreeMap _ End). view_of (record c.args.self.now { ends = ends }))
    c.get_mut.follows.holds-at-none
    ∙ no_password (view_of c.args.self.now) c.args.link c.args.password
    (end_missing c.args.self.now.ends c.args.link (sym c.in_default.ensures.value))
