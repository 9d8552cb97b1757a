use Rattle.std.proofs.Common.{false, ◌∙◌}
use Rattle.irc_engine.specs.Moments.{has}
use Rattle.irc_engine.proofs.TableLaws.{set_at}
use Rattle.irc_engine.proofs.connections.forget.Goals as goal

pub returns : goal.returns
returns c = λ q. c.remove.ensures.updates.0 q ∙ set_at (has c.args.numbers.now) false c.args.conn q
