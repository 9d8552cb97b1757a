use Rattle.std.proofs.Common.{◌∙◌, arith, refl, subst}
use Rattle.std.proofs.lemmas.Grind.{common_steps}
use Rattle.std.proofs.lemmas.List.{nil_from_length}
use Rattle.std.specs.Vec.Iter.{into_iter_items}
use Rattle.irc_engine.specs.Lemmas.Stills.{connected_on, nobody_goes}
use Rattle.irc_doorman.specs.Doormen.{silent_of, state_with, IsAsked}
use Rattle.irc_doorman.proofs.Asking.{asked_all, asked_none, asked_on}
use Rattle.irc_doorman.proofs.doorman.Doorman.look.Goals as goal

pub loop-conn-init : goal.loop-conn-init
loop-conn-init g c = record {
  asked = asked_none g.M.Machine.server_of g.M.Machine.handles c.args.self.now.asks c.args.moment
      (silent_of c.args.silence c.args.moment c.args.self.now.guests)
      (state_with c.args.self.now c.args.out.now.outs) (into_iter_items c.into_iter-rest.result)
      (c.into_iter-rest.ensures.rest ∙ c.in_ok-conns.ensures);
  same = record { asks = refl; moment = refl; next_look = refl };
  connected = nobody_goes (g.M.Machine.server_of c.args.self.now.machine) c.args.out.now.outs;
}

pub loop-conn-preserved : goal.loop-conn-preserved
loop-conn-preserved g c = record {
  asked = asked_on g.M.Machine.server_of g.M.Machine.handles c.args.self.now.asks c.args.moment
      (silent_of c.args.silence c.args.moment c.args.self.now.guests)
      (state_with c.args.self.now c.args.out.now.outs) (into_iter_items c.loop-conn.rest)
      (into_iter_items c.next.new.self) c.in-Some.conn
      (state_with c.loop-conn.self c.loop-conn.out.outs)
      (state_with c.ask.new.self c.ask.new.out.outs) c.in-Some.ensures.items
      (subst (λ asks. IsAsked g.M.Machine.server_of g.M.Machine.handles asks c.args.moment
      c.in-Some.conn (state_with c.loop-conn.self c.loop-conn.out.outs)
      (state_with c.ask.new.self c.ask.new.out.outs)) c.loop-conn.invariant.same.asks
      c.in_ok-ask.ensures.asked) c.loop-conn.invariant.asked;
  same = record {
    asks = c.in_ok-ask.ensures.same.asks ∙ c.loop-conn.invariant.same.asks;
    moment = c.in_ok-ask.ensures.same.moment ∙ c.loop-conn.invariant.same.moment;
    next_look = c.in_ok-ask.ensures.same.next_look ∙ c.loop-conn.invariant.same.next_look;
  };
  connected = connected_on (g.M.Machine.server_of c.args.self.now.machine)
      (g.M.Machine.server_of c.loop-conn.self.machine) (g.M.Machine.server_of
      c.ask.new.self.machine)
      c.args.out.now.outs c.loop-conn.out.outs c.ask.new.out.outs
      c.loop-conn.invariant.connected c.in_ok-ask.ensures.connected;
}

pub returns-clause-asked : goal.returns-clause-asked
returns-clause-asked g c =
    asked_all g.M.Machine.server_of g.M.Machine.handles c.args.self.now.asks c.args.moment
    (silent_of c.args.silence c.args.moment c.args.self.now.guests)
    (state_with c.args.self.now c.args.out.now.outs) (into_iter_items c.loop-conn.rest)
    (state_with c.loop-conn.self c.loop-conn.out.outs)
    (nil_from_length (into_iter_items c.loop-conn.rest) (grind (arith, common_steps)))
    c.loop-conn.invariant.asked
