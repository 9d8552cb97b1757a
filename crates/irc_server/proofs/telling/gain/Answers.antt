use Rattle.std.proofs.Common.{◌∙◌, ap, if◌then◌else◌}
use Rattle.irc_line.specs.Messages.{text}
use Rattle.irc_routes.specs.Known.{Known}
use Rattle.irc_burst_lines.specs.DeedLines.{server_parts}
use Rattle.irc_stage.specs.Linked.{is_taken, with_row}
use Rattle.irc_stage.specs.Loops.Handling.{where_it_is}
use Rattle.irc_stage.specs.View.{View}
use Rattle.irc_server.proofs.DeedsDone.{gains_more, gains_none}
use Rattle.irc_server.proofs.telling.gain.Goals as goal

pub returns : goal.returns
returns c =
    let new = c.args.server.now in
    let old = c.args.serving in
    gains_more c.args.link new.uplink new.name new.distance new.token new.info _ old
    c.in_ok-serving.serving c.in_ok-serving.is_known c.tell_all.result
    (c.in_ok-serving.ensures.known_is
    ∙ ap (λ name. is_taken old.state.routes c.args.link name new.token) c.as_bytes.ensures.value)
    (c.in_ok-serving.ensures.new_is
    ∙ ap (λ name. where_it_is (if c.in_ok-serving.is_known then with_row c.args.link new.uplink name
    new.distance new.token new.info old.state else old.state) old) c.as_bytes.ensures.value)
    c.if-not-is_known.false
    (c.server_text-line.ensures
    ∙ ap (λ (known : Known). text (server_parts known new.uplink new.name new.info))
    (c.routes-routes.ensures ∙ ap (λ (view : View). view.routes) c.view.ensures))
    c.tell_all.ensures

pub returns-then-not-is_known : goal.returns-then-not-is_known
returns-then-not-is_known c =
    let new = c.args.server.now in
    let old = c.args.serving in
    gains_none c.args.link new.uplink new.name new.distance new.token new.info old
    c.in_ok-serving.serving c.in_ok-serving.is_known
    (c.in_ok-serving.ensures.known_is
    ∙ ap (λ name. is_taken old.state.routes c.args.link name new.token) c.as_bytes.ensures.value)
    (c.in_ok-serving.ensures.new_is
    ∙ ap (λ name. where_it_is (if c.in_ok-serving.is_known then with_row c.args.link new.uplink name
    new.distance new.token new.info old.state else old.state) old) c.as_bytes.ensures.value)
    c.if-not-is_known.true
