use Rattle.std.proofs.Common.{decimal, refl, arith}
use Rattle.irc_decimals.proofs.NumbersWritten.{written}
use Rattle.irc_decimals.proofs.laws.written_is_read.Goals as goal

pub returns : goal.returns
returns c number most = written (decimal number) number (omega (arith, most)) refl
