use Rattle.irc_merge.proofs.OwnInvitations.{server_reads_merge}
use Rattle.irc_merge.proofs.laws.server_reads_merge.Goals as goal

pub returns : goal.returns
returns c = server_reads_merge
