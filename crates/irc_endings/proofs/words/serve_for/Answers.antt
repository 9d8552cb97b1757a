use Rattle.std.proofs.Common.{rules}
use Rattle.irc_endings.proofs.words.serve_for.Goals as goal

pub returns-in-Some : goal.returns-in-Some
returns-in-Some c = search rules
