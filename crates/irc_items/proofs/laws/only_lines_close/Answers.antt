use Rattle.irc_items.proofs.ClosesNone.{only_lines_close}
use Rattle.irc_items.proofs.laws.only_lines_close.Goals as goal

pub returns : goal.returns
returns c = only_lines_close c.served_closes_its_own.ensures
