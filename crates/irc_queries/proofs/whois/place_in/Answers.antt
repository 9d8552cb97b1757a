use Rattle.std.proofs.Common.{rules}
use Rattle.irc_queries.proofs.whois.place_in.Goals as goal

pub returns-in-Some : goal.returns-in-Some
returns-in-Some c = search rules
