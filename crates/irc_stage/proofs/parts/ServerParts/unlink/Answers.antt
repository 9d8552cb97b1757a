use Rattle.std.proofs.Common.{ap, sym, subst, ◌∙◌}
use Rattle.irc_stage.specs.Ends.{Ends}
use Rattle.irc_stage.specs.Ways.{AreEnds}
use Rattle.irc_routes.specs.Known.{Known, without_link}
use Rattle.irc_stage.specs.Lemmas.Numbers.{taken-numbered}
use Rattle.irc_stage.specs.Loops.Parts.{numbered, view_of, IsServing}
use Rattle.irc_stage.proofs.LinkEnds.{serves_with_routes, unlinked_met}
use Rattle.irc_stage.proofs.parts.ServerParts.unlink.Goals as goal

pub returns-clause-ok : goal.returns-clause-ok
returns-clause-ok c =
    ap (λ (known : Known). record (view_of c.args.self.now) {
      routes = known;
      ends = numbered c.remove.new.self;
    }) (c.lose.ensures ∙ ap (λ n. without_link n c.args.self.now.routes) c.number.ensures)
    ∙ ap (λ (ends : Ends). record (view_of c.args.self.now)
    { routes = without_link c.args.link c.args.self.now.routes; ends = ends })
    (taken-numbered c.args.self.now.ends c.remove.new.self c.args.link
    c.remove.ensures.updates)

pub returns-clause-serving : goal.returns-clause-serving
returns-clause-serving c =
    let known = without_link c.args.link c.args.self.now.routes in
    subst (λ (k : Known). IsServing (record c.args.self.now {
      routes = k;
      ways = c.forget.new.self;
      ends = c.remove.new.self;
    })) (sym (c.lose.ensures
    ∙ ap (λ n. without_link n c.args.self.now.routes) c.number.ensures))
    (serves_with_routes c.args.self.now c.requires.serving known.rows c.forget.new.self
    c.remove.new.self c.forget.ensures.forgotten
    (subst (λ (es : Ends). AreEnds es known) (sym (taken-numbered c.args.self.now.ends
    c.remove.new.self c.args.link c.remove.ensures.updates))
    (unlinked_met (numbered c.args.self.now.ends) c.args.self.now.routes c.args.link
    c.requires.serving.ready.met)))
