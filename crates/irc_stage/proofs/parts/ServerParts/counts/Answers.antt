use Rattle.std.proofs.Common.{◌∙◌, ◌&&◌, ap, not, sym}
use Rattle.irc_room.specs.Effects.{brings_free}
use Rattle.irc_stage.specs.EffectTold.{is_of_here}
use Rattle.irc_stage.specs.Loops.Parts.{view_of}
use Rattle.irc_stage.proofs.parts.ServerParts.counts.Goals as goal

pub returns : goal.returns
returns c =
    let view = view_of c.args.self.now in
    let effect = c.args.effect.now in
    let named = c.named-named.ensures in
    sym (ap (λ b. b && (brings_free view.room effect && not (is_of_here view effect)))
    (sym (c.does.ensures view.room named) ∙ c.if-not-does.false)
    ∙ ap (λ b. b && not (is_of_here view effect)) (sym c.is_free.ensures ∙ c.if-not-is_free.false)
    ∙ ap not (sym (c.is_of_here.ensures view named)))
