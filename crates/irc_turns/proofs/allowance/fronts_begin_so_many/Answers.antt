use Rattle.irc_turns.proofs.FrontsBegun.{front_begins}
use Rattle.irc_turns.proofs.allowance.fronts_begin_so_many.Goals as goal

pub returns : goal.returns
returns c = front_begins
