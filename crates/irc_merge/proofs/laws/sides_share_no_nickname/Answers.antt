use Rattle.irc_merge.proofs.GivenBack.{sides_share_no_nickname}
use Rattle.irc_merge.proofs.laws.sides_share_no_nickname.Goals as goal

pub returns : goal.returns
returns c = sides_share_no_nickname
