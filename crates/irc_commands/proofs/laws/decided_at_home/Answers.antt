use Rattle.irc_commands.proofs.HomeDecides.{decided_at_home}
use Rattle.irc_commands.proofs.laws.decided_at_home.Goals as goal

pub returns : goal.returns
returns c = decided_at_home c.decided_by_own_invitations.ensures c.home_is_alike_for_its_own.ensures
