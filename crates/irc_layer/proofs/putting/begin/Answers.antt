use Rattle.std.proofs.Common.{Some, ◌∙◌}
use Rattle.irc_layer.specs.Ends.{end_at}
use Rattle.irc_layer.proofs.Numbers.{set_at}
use Rattle.irc_layer.proofs.putting.begin.Goals as goal

pub returns : goal.returns
returns c = λ i q. (c.in-Ok.ensures.updates.0 q
    ∙ set_at (end_at c.args.ends.now) (Some c.args.end) c.args.link q) i
