use Rattle.irc_users.specs.Lemmas.ChangesMeet as meet
use Rattle.irc_users.proofs.laws.changes_meet_their_users.Goals as goal

pub returns : goal.returns
returns c = meet.changes_meet_their_users
