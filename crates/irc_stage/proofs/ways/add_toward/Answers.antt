use Rattle.std.proofs.Common.{◌++◌, ◌∙◌, ap, option_to_list, sym}
use Rattle.irc_stage.specs.Ways.{but}
use Rattle.irc_stage.specs.Lemmas.Listed.{toward_one}
use Rattle.irc_stage.specs.Lemmas.Outcomes.{on_ok}
use Rattle.irc_stage.specs.Loops.Around.{hop_of}
use Rattle.irc_stage.proofs.ways.add_toward.Goals as goal

pub returns : goal.returns
returns c = λ nick is.
    on_ok c.add_unless.result _ _
    (λ added. added
    ∙ ap (λ links. c.args.links.now.items ++ but c.args.arrival links)
    (ap option_to_list (c.hop.ensures ∙ ap (hop_of c.args.around.routes.now) is)
    ∙ sym (toward_one c.args.around.room.now.room c.args.around.routes.now nick)))
    c.add_unless.ensures
