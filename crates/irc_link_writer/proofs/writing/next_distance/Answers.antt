use Rattle.std.proofs.Common.{rules}
use Rattle.irc_link_writer.proofs.writing.next_distance.Goals as goal

pub returns-in-Some : goal.returns-in-Some
returns-in-Some c = search rules
