use Rattle.std.proofs.Common.{◌∙◌, ap, sym}
use Rattle.irc_link_writer.specs.Written.{wire}
use Rattle.irc_stage.specs.EffectTold.{on_links}
use Rattle.irc_stage.specs.Loops.Parts.{lines_on}
use Rattle.irc_stage.proofs.ToldOnLinks.{on_none}
use Rattle.irc_stage.proofs.ways.Ways.ready.Goals as goal

pub returns-then-is_empty-clause-at_hand : goal.returns-then-is_empty-clause-at_hand
returns-then-is_empty-clause-at_hand c =
    let around = c.args.around in
    ap (λ links. lines_on links c.args.line.now.items) c.clear.ensures.items
    ∙ ap (λ links. on_links links (wire around.room.now.room around.routes.now c.args.effect.now))
    (sym (on_none around.ends.now around.routes.now c.requires.met
    (c.is_empty.ensures.0 c.if-is_empty.true) around.room.now.room c.args.arrival
    c.args.effect.now))
