use Rattle.irc_crossing.proofs.Examples.{key_stays, letter_is_left_out, mode_is_left_out}
use Rattle.irc_crossing.proofs.laws.mode_lines.Goals as goal

pub returns-clause-letter : goal.returns-clause-letter
returns-clause-letter c = letter_is_left_out

pub returns-clause-line : goal.returns-clause-line
returns-clause-line c = mode_is_left_out

pub returns-clause-key : goal.returns-clause-key
returns-clause-key c = key_stays
