use Rattle.irc_world.proofs.OwnUsers.{clients_bring_own_users}
use Rattle.irc_world.proofs.laws.clients_bring_own_users.Goals as goal

pub returns : goal.returns
returns c = clients_bring_own_users c.decided_adds_nobody.ensures c.registered_is_added.ensures
    c.unregistered_changes_nothing.ensures
