use Rattle.irc_brakes.proofs.FindingReaders.{each_reads_or_waits}
use Rattle.irc_brakes.proofs.laws.each_reads_or_waits.Goals as goal

pub returns : goal.returns
returns c = each_reads_or_waits
