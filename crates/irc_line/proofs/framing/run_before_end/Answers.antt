use Rattle.std.proofs.Common.{rules}
use Rattle.irc_line.proofs.framing.run_before_end.Goals as goal

pub returns-then-byte-eq-CARRIAGE_RETURN-clause-ends :
    goal.returns-then-byte-eq-CARRIAGE_RETURN-clause-ends
returns-then-byte-eq-CARRIAGE_RETURN-clause-ends c = search rules
