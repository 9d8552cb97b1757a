use Rattle.irc_readback.specs.Lemmas.IntroductionRead.{introduced_is_read}
use Rattle.irc_readback.proofs.laws.introduced_is_read.Goals as goal

pub returns : goal.returns
returns c = introduced_is_read
