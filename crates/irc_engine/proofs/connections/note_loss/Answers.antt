use Rattle.std.proofs.Common.{Some, ◌∙◌}
use Rattle.irc_engine.specs.Moments.{lost_at}
use Rattle.irc_engine.proofs.TableLaws.{set_at}
use Rattle.irc_engine.proofs.connections.note_loss.Goals as goal

pub returns-in-Ok-clause-noted : goal.returns-in-Ok-clause-noted
returns-in-Ok-clause-noted c = λ q. c.in-Ok.ensures.updates.0 q
    ∙ set_at (lost_at c.args.lost.now) (Some c.args.kind) c.args.conn q
