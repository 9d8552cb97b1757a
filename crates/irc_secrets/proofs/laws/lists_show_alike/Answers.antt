use Rattle.irc_secrets.proofs.ListsShown.{lists_show_alike}
use Rattle.irc_secrets.proofs.laws.lists_show_alike.Goals as goal

pub returns : goal.returns
returns c = lists_show_alike c.after_is_well_formed.ensures
