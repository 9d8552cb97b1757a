use Rattle.irc_layer.proofs.Bounds.{full_logs_stay}
use Rattle.irc_layer.proofs.laws.full_logs_stay.Goals as goal

pub returns : goal.returns
returns c = full_logs_stay
