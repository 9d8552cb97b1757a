use Rattle.irc_users.specs.Lemmas.ChangesMeet as meet
use Rattle.irc_users.proofs.laws.told_unseen.Goals as goal

pub returns : goal.returns
returns c = meet.told_unseen
