use Rattle.irc_secrets.proofs.OutsidersShown.{outsiders_are_shown_alike}
use Rattle.irc_secrets.proofs.laws.outsiders_are_shown_alike.Goals as goal

pub returns : goal.returns
returns c = outsiders_are_shown_alike c.after_is_well_formed.ensures
