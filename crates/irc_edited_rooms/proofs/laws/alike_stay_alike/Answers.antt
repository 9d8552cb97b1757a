use Rattle.irc_edited_rooms.specs.Lemmas.LogsStayAlike.{alike_stay_alike}
use Rattle.irc_edited_rooms.proofs.laws.alike_stay_alike.Goals as goal

pub returns : goal.returns
returns g c = alike_stay_alike
