use Rattle.std.proofs.Common.{◌∙◌, sym}
use Rattle.irc_engine.specs.Lemmas.Stills.{nobody_goes}
use Rattle.irc_doorman.specs.Doormen.{silent_at, state_with}
use Rattle.irc_doorman.proofs.Watching.{nobody_asked, none_silent, soon_silent}
use Rattle.irc_doorman.proofs.doorman.Doorman.watch.Goals as goal

pub returns-in_default-clause-asked : goal.returns-in_default-clause-asked
returns-in_default-clause-asked g c =
    nobody_asked g.M.Machine.server_of g.M.Machine.handles c.args.self.now.asks c.args.moment
    (silent_at c.args.self.now.asks.ping_after c.args.self.now.next_look c.args.moment
    c.args.self.now.guests)
    (state_with c.args.self.now c.args.out.now.outs)
    (none_silent c.args.self.now c.args.moment c.in_default.is)

pub returns-in_default-clause-connected : goal.returns-in_default-clause-connected
returns-in_default-clause-connected g c =
    nobody_goes (g.M.Machine.server_of c.args.self.now.machine) c.args.out.now.outs

pub returns-then-is_before-clause-asked : goal.returns-then-is_before-clause-asked
returns-then-is_before-clause-asked g c =
    nobody_asked g.M.Machine.server_of g.M.Machine.handles c.args.self.now.asks c.args.moment
    (silent_at c.args.self.now.asks.ping_after c.args.self.now.next_look c.args.moment
    c.args.self.now.guests)
    (state_with c.args.self.now c.args.out.now.outs)
    (soon_silent c.args.self.now c.args.moment c.in-Some.seconds c.in-Some.is
    (sym c.is_before.ensures ∙ c.if-is_before.true))

pub returns-then-is_before-clause-connected : goal.returns-then-is_before-clause-connected
returns-then-is_before-clause-connected g c =
    nobody_goes (g.M.Machine.server_of c.args.self.now.machine) c.args.out.now.outs
