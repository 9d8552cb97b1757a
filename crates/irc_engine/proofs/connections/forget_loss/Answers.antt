use Rattle.std.proofs.Common.{None, ◌∙◌}
use Rattle.irc_engine.specs.Moments.{lost_at}
use Rattle.irc_engine.proofs.TableLaws.{set_at}
use Rattle.irc_engine.proofs.connections.forget_loss.Goals as goal

pub returns-clause-forgotten : goal.returns-clause-forgotten
returns-clause-forgotten c =
    λ q. c.remove.ensures.updates.0 q ∙ set_at (lost_at c.args.lost.now) None c.args.conn q
