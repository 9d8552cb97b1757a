use Rattle.std.proofs.Common.{true, ◌∙◌}
use Rattle.irc_engine.specs.Moments.{has}
use Rattle.irc_engine.proofs.TableLaws.{set_at}
use Rattle.irc_engine.proofs.connections.note.Goals as goal

pub returns-in-Ok : goal.returns-in-Ok
returns-in-Ok c =
    λ q. c.in-Ok.ensures.updates.0 q ∙ set_at (has c.args.numbers.now) true c.args.conn q
