use Rattle.irc_world.proofs.HomesKept.{step_keeps_homes}
use Rattle.irc_world.proofs.laws.step_keeps_homes.Goals as goal

pub returns : goal.returns
returns c = step_keeps_homes c.clients_bring_own_users.ensures c.merge_has_nothing_new.ensures
    c.split_has_nothing_new.ensures
