use Rattle.irc_secrets.proofs.StayAlike.{both_stay_alike, one_stays_alike}
use Rattle.irc_secrets.proofs.laws.rooms_stay_alike.Goals as goal

pub returns-clause-both : goal.returns-clause-both
returns-clause-both c = both_stay_alike

pub returns-clause-one : goal.returns-clause-one
returns-clause-one c = one_stays_alike
