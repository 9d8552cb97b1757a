use Rattle.std.proofs.Common.{◌∙◌, ap, sym, if◌then◌else◌}
use Rattle.irc_stage.specs.EffectTold.{changed, changed_if}
use Rattle.irc_stage.specs.Lemmas.Counting.{changed_if_stays, counted, said_elsewhere}
use Rattle.irc_stage.specs.Lemmas.Matching.{fit_by}
use Rattle.irc_stage.specs.Lemmas.Outcomes.{on_ok}
use Rattle.irc_stage.specs.Loops.Parts.{machine_at, served_at, view_of}
use Rattle.irc_stage.proofs.ServesStill.{holds_at, serves_on_ok}
use Rattle.irc_stage.proofs.ToldOnLinks.{spoken_by_link}
use Rattle.irc_stage.proofs.parts.ServerParts.take_effect.Goals as goal

pub change-requires-clause-fit : goal.change-requires-clause-fit
change-requires-clause-fit c =
    fit_by (machine_at c.args.self.now) c.args.effect.now c.requires.serving.matched
    (counted (view_of c.args.self.now) c.args.effect.now
    (sym c.counts.ensures ∙ c.if-not-counts.false)).0

pub change-requires-clause-spoken : goal.change-requires-clause-spoken
change-requires-clause-spoken c =
    let view = view_of c.args.self.now in
    spoken_by_link c.link-origin.result c.args.link c.link-origin.ensures
    (machine_at c.args.self.now) c.args.effect.now
    (said_elsewhere view c.args.effect.now c.requires.serving.matched
    (counted view c.args.effect.now (sym c.counts.ensures ∙ c.if-not-counts.false)).1)

pub returns-then-not-counts-clause-ok : goal.returns-then-not-counts-clause-ok
returns-then-not-counts-clause-ok c =
    let old = served_at c.args.self.now c.args.out.now.outs in
    sym (ap (λ b. if b then changed c.args.effect.now old else old)
    (sym c.counts.ensures ∙ c.if-not-counts.true))

pub returns-clause-ok : goal.returns-clause-ok
returns-clause-ok c =
    let effect = c.args.effect.now in
    let old = served_at c.args.self.now c.args.out.now.outs in
    on_ok c.change.result _ _
    (λ is. is
    ∙ sym (ap (λ b. if b then changed effect old else old)
    (sym c.counts.ensures ∙ c.if-not-counts.false)))
    c.change.ensures.ok

pub returns-clause-serving : goal.returns-clause-serving
returns-clause-serving c =
    let old = served_at c.args.self.now c.args.out.now.outs in
    serves_on_ok c.change.result c.change.new.self c.change.new.out.outs
    (changed_if c.args.effect.now old)
    (changed_if_stays c.args.effect.now old
    (holds_at c.args.self.now c.args.out.now.outs c.requires.serving))
    c.change.ensures.ready (returns-clause-ok c)
