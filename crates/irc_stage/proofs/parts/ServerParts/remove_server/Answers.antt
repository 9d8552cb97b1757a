use Rattle.std.proofs.Common.{ap, sym, subst, ◌∙◌}
use Rattle.irc_routes.specs.Known.{Known, without_server}
use Rattle.irc_stage.specs.Loops.Parts.{numbered, IsServing}
use Rattle.irc_stage.proofs.LinkEnds.{left_met, serves_with_routes}
use Rattle.irc_stage.proofs.parts.ServerParts.remove_server.Goals as goal

pub returns-clause-serving : goal.returns-clause-serving
returns-clause-serving c =
    let known = without_server c.args.name.now c.args.self.now.routes in
    subst
    (λ (k : Known). IsServing (record c.args.self.now { routes = k; ways = c.forget.new.self }))
    (sym (c.remove.ensures
    ∙ ap (λ n. without_server n c.args.self.now.routes) c.as_bytes.ensures.value))
    (serves_with_routes c.args.self.now c.requires.serving known.rows c.forget.new.self
    c.args.self.now.ends c.forget.ensures.forgotten
    (left_met (numbered c.args.self.now.ends) c.args.self.now.routes c.args.name.now
    c.requires.serving.ready.met))
