use Rattle.irc_daemons.proofs.EachStep.{each_step}
use Rattle.irc_daemons.proofs.Saying.{served_alike}
use Rattle.irc_daemons.proofs.laws.each_step_is_followed.Goals as goal

pub returns : goal.returns
returns g c =
    each_step g.W.Wire.is_after c.pieces_complete_the_same.ensures.pieces c.served_lines_end.ensures
    c.served_goes_to_its_own.ensures
    c.who_is_connected.ensures
    (served_alike c.served_alike.ensures c.nothing_is_behind_an_end.ensures
    c.served_keeps_ends.ensures)
