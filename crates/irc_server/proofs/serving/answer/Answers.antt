use Rattle.std.proofs.Common.{◌∙◌, ap, map, sym}
use Rattle.std.specs.FinMap.{get}
use Rattle.std.specs.Option.{option_copied}
use Rattle.irc_line.specs.Messages.{text}
use Rattle.irc_burst_lines.specs.BurstLines.{burst_parts}
use Rattle.irc_burst_lines.specs.Loops.Telling.{lines_now}
use Rattle.irc_room.specs.Lemmas.Rows.{found_also}
use Rattle.irc_stage.specs.View.{View}
use Rattle.irc_server.proofs.LinesServed.{answered, is_called, nothing_owed}
use Rattle.irc_server.proofs.serving.answer.Goals as goal

pub returns-in_default : goal.returns-in_default
returns-in_default c = nothing_owed c.args.link c.args.name.now c.args.serving
    (ap (λ (v : View). get v.ends c.args.link) (sym c.view-view.ensures)
    ∙ sym c.end.ensures ∙ ap option_copied c.in_default.is)

pub returns : goal.returns
returns c =
    let view = c.args.serving.state in
    found_also c.put_all.result
    (λ done put. answered c.args.link c.args.name.now c.in-Some.end.now c.is_none-is_called.result _
    c.args.serving c.in_ok-greeted.greeted done
    (ap (λ (v : View). get v.ends c.args.link) (sym c.view-view.ensures)
    ∙ sym c.end.ensures ∙ ap option_copied c.in-Some.is)
    (is_called c.starts.result _ c.is_none-is_called.result c.starts.ensures
    c.is_none-is_called.ensures)
    c.in_ok-greeted.ensures
    (ap lines_now c.as_slice.ensures.value ∙ c.in_ok-lines.ensures
    ∙ ap (λ link. map text (burst_parts c.room.result.now.room c.routes.result.now link))
    c.number.ensures
    ∙ ap (λ room. map text (burst_parts room c.routes.result.now c.args.link))
    (c.room.ensures ∙ ap (λ (v : View). v.room) c.view-view.ensures)
    ∙ ap (λ known. map text (burst_parts view.room known c.args.link))
    (c.routes.ensures ∙ ap (λ (v : View). v.routes) c.view-view.ensures))
    put)
    c.put_all.ensures
