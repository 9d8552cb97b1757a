use Rattle.std.proofs.Common.{◌∙◌, subst, sym, ap}
use Rattle.std.specs.FinMap.{get}
use Rattle.irc_room.specs.Lemmas.Rows.{found_also}
use Rattle.irc_routes.specs.Known.{Known}
use Rattle.irc_stage.specs.EffectTold.{Served}
use Rattle.irc_stage.specs.Linked.{with_far}
use Rattle.irc_stage.specs.View.{View}
use Rattle.irc_stage.specs.Ways.{IsMetEnd}
use Rattle.irc_stage.specs.Loops.Handling.{where_it_is}
use Rattle.irc_server.proofs.LinesServed.{met_now, met_served}
use Rattle.irc_server.proofs.serving.meet.Goals as goal

pub gain-requires : goal.gain-requires
gain-requires c =
    let answered = c.in_ok-answer.field-0 in
    record {
      met =
          subst (λ (s : Served). IsMetEnd (get s.state.ends c.args.link))
          (sym (c.meet-serving.ensures
          ∙ ap (λ name. where_it_is (with_far c.args.link name answered.state) answered)
          c.copy.ensures
          ∙ ap (λ (s : Served). where_it_is (with_far c.args.link c.args.name s.state) s)
          c.in_ok-answer.ensures))
          (met_now c.args.serving.state c.args.link c.args.name c.requires.there);
    }

pub returns : goal.returns
returns c =
    let answered = c.in_ok-answer.field-0 in
    found_also c.gain.result
    (λ done told. met_served c.args.link c.args.name c.copy-uplink.result c.args.info c.args.serving
    answered c.meet-serving.result done c.in_ok-answer.ensures
    (c.meet-serving.ensures
    ∙ ap (λ name. where_it_is (with_far c.args.link name answered.state) answered) c.copy.ensures)
    (c.copy-uplink.ensures ∙ c.name.ensures
    ∙ ap (λ (known : Known). known.name) c.routes.ensures
    ∙ ap (λ (view : View). view.routes.name) c.view.ensures) told)
    c.gain.ensures
