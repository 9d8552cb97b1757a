use Rattle.irc_effects.proofs.SeenAlone.{private_text_seen_alone}
use Rattle.irc_effects.proofs.laws.private_text_seen_alone.Goals as goal

pub returns : goal.returns
returns c = private_text_seen_alone
