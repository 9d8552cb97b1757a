use Rattle.std.proofs.Common.{Option, sym, subst}
use Rattle.irc_stage.specs.View.{View}
use Rattle.irc_engine.specs.Knowing.{IsSettled}
use Rattle.irc_engine.specs.Moments.{connection_of, lost_at}
use Rattle.irc_engine.proofs.engine.Engine.alter.Goals as goal

-- the server is the same one, and so are the connections
pub invariant_of-self : goal.invariant_of-self
invariant_of-self g c =
    let core = c.args.self.now.core in
    record {
      settled = λ works. subst (λ (server : Option View).
          IsSettled server (connection_of core.connections.table) (lost_at core.connections.lost))
          (sym c.alter.ensures.server) (c.args.self.now.settled works);
    }
