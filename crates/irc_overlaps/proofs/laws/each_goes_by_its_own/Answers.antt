use Rattle.irc_overlaps.proofs.OwnEvents.{each_goes_by_its_own}
use Rattle.irc_overlaps.proofs.laws.each_goes_by_its_own.Goals as goal

pub returns : goal.returns
returns c = each_goes_by_its_own
