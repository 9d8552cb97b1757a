use Rattle.irc_effects.proofs.SeenAlone.{own_mode_seen_alone}
use Rattle.irc_effects.proofs.laws.own_mode_seen_alone.Goals as goal

pub returns : goal.returns
returns c = own_mode_seen_alone
