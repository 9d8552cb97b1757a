use Rattle.std.proofs.Common.{sym, subst}
use Rattle.irc_stage.specs.Ends.{Ends}
use Rattle.irc_stage.specs.Ways.{AreEnds, IsMetEnd}
use Rattle.irc_stage.specs.Loops.Parts.{numbered}
use Rattle.irc_stage.proofs.LinkEnds.{put_met, serves_with_ends}
use Rattle.irc_stage.proofs.parts.ServerParts.open_link.Goals as goal

pub returns-clause-serving : goal.returns-clause-serving
returns-clause-serving c =
    let stage = c.args.self.now in
    serves_with_ends stage c.requires.serving c.put_end.new.ends
    (subst (λ (es : Ends). AreEnds es stage.routes) (sym c.in_ok-put_end.ensures)
    (put_met (numbered stage.ends) stage.routes c.args.link c.new.result
    c.requires.serving.ready.met (λ counted. absurd (subst IsMetEnd c.requires.new counted))))
