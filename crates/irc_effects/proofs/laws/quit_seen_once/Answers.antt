use Rattle.irc_effects.proofs.QuitLaw.{quit_seen_once}
use Rattle.irc_effects.proofs.laws.quit_seen_once.Goals as goal

pub returns : goal.returns
returns c = quit_seen_once
