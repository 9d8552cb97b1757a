use Rattle.std.proofs.Common.{Some, ◌∙◌, ap, sym, if◌then◌else◌}
use Rattle.irc_stage.specs.EffectTold.{effect_came, effect_told}
use Rattle.irc_stage.specs.Lemmas.Counting.{came_stays, counted, said_elsewhere}
use Rattle.irc_stage.specs.Lemmas.Matching.{fit_by}
use Rattle.irc_stage.specs.Lemmas.Outcomes.{on_ok}
use Rattle.irc_stage.specs.Loops.Parts.{machine_at, served_at, view_of}
use Rattle.irc_stage.proofs.ServesStill.{holds_at, serves_on_ok}
use Rattle.irc_stage.proofs.ToldOnLinks.{spoken_by_link}
use Rattle.irc_stage.proofs.parts.ServerParts.come.Goals as goal

pub apply-requires-clause-fit : goal.apply-requires-clause-fit
apply-requires-clause-fit c =
    fit_by (machine_at c.args.self.now) c.args.effect.now c.requires.serving.matched
    (counted (view_of c.args.self.now) c.args.effect.now
    (sym c.counts.ensures ∙ c.if-not-counts.false)).0

pub apply-requires-clause-spoken : goal.apply-requires-clause-spoken
apply-requires-clause-spoken c =
    let view = view_of c.args.self.now in
    spoken_by_link c.link-origin.result c.args.link c.link-origin.ensures
    (machine_at c.args.self.now) c.args.effect.now
    (said_elsewhere view c.args.effect.now c.requires.serving.matched
    (counted view c.args.effect.now (sym c.counts.ensures ∙ c.if-not-counts.false)).1)

pub returns-then-not-counts-clause-ok : goal.returns-then-not-counts-clause-ok
returns-then-not-counts-clause-ok c =
    let old = served_at c.args.self.now c.args.out.now.outs in
    sym (ap (λ b. if b then effect_told (Some c.args.link) c.args.effect.now old else old)
    (sym c.counts.ensures ∙ c.if-not-counts.true))

pub returns-clause-ok : goal.returns-clause-ok
returns-clause-ok c =
    let effect = c.args.effect.now in
    let old = served_at c.args.self.now c.args.out.now.outs in
    on_ok c.apply.result _ _
    (λ is. is
    ∙ ap (λ arrival. effect_told arrival effect old) c.link-origin.ensures
    ∙ sym (ap (λ b. if b then effect_told (Some c.args.link) effect old else old)
    (sym c.counts.ensures ∙ c.if-not-counts.false)))
    c.apply.ensures.ok

pub returns-clause-serving : goal.returns-clause-serving
returns-clause-serving c =
    let old = served_at c.args.self.now c.args.out.now.outs in
    serves_on_ok c.apply.result c.apply.new.self c.apply.new.out.outs
    (effect_came (Some c.args.link) c.args.effect.now old)
    (came_stays (Some c.args.link) c.args.effect.now old
    (holds_at c.args.self.now c.args.out.now.outs c.requires.serving))
    c.apply.ensures.ready (returns-clause-ok c)
