use Rattle.std.proofs.Common.{ap, sym, subst, ◌∙◌}
use Rattle.irc_routes.specs.Known.{Known, added}
use Rattle.irc_stage.specs.Loops.Parts.{numbered, IsServing}
use Rattle.irc_stage.proofs.LinkEnds.{added_met, serves_with_routes}
use Rattle.irc_stage.proofs.parts.ServerParts.add_server.Goals as goal

pub returns-in-Ok-clause-serving : goal.returns-in-Ok-clause-serving
returns-in-Ok-clause-serving c =
    let newcomer = c.args.newcomer.now in
    let stage = c.args.self.now in
    let known = added c.args.link newcomer.uplink.now newcomer.name.now newcomer.distance
    newcomer.token newcomer.info.now stage.routes in
    subst (λ (k : Known). IsServing (record stage { routes = k; ways = c.forget.new.self }))
    (sym (c.in-Ok.ensures.ok
    ∙ ap (λ n. added n newcomer.uplink.now newcomer.name.now newcomer.distance newcomer.token
    newcomer.info.now stage.routes) c.number-link.ensures))
    (serves_with_routes stage c.requires.serving known.rows c.forget.new.self stage.ends
    c.forget.ensures.forgotten
    (added_met (numbered stage.ends) stage.routes c.args.link newcomer.uplink.now
    newcomer.name.now newcomer.distance newcomer.token newcomer.info.now
    c.requires.serving.ready.met
    c.requires.met))
